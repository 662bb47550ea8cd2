pub mod Shaken
pub mod Owed
pub mod Followed
