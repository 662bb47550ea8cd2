pub mod SaidHands
pub mod Turning
pub mod HandCourse
pub mod HandMet
pub mod Followed
