pub mod Examples
pub mod Gather
pub mod MultiTopology
pub mod Observer
pub mod Topology
