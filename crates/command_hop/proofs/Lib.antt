pub mod Steps
pub mod WayLaws
pub mod HopWays
pub mod Partition
pub mod Packets
pub mod Inputs
pub mod BlockLines
