pub mod Examples
pub mod Live
pub mod Paths
pub mod Way
