pub mod Faults
pub mod Events
pub mod LiveRun
pub mod Owed
pub mod HelloRun
pub mod HelloOwed
pub mod Verdict
