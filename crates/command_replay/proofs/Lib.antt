pub mod SaidLines
pub mod Steps
pub mod Answered
pub mod Coursed
