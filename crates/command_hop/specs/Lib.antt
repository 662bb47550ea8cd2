pub mod Forward
pub mod HopText
pub mod Owed
pub mod Ready
pub mod Ways
pub mod Partition
