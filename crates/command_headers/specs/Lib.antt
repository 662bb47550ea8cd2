pub mod Sight
pub mod HeadersText
pub mod Owed
