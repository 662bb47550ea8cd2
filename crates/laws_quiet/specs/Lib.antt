pub mod Cover
pub mod Quiet
