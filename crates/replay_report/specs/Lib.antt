pub mod Captures
pub mod Counting
pub mod Lines
