pub mod Opened
pub mod Named
pub mod Fresh
