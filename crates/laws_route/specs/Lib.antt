pub mod Bounds
pub mod Nearer
pub mod Candidate
pub mod OnWay
pub mod Descends
pub mod Examples
pub mod GraphTest
