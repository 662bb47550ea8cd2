pub mod Grow
pub mod Counted
