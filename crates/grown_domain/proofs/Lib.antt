pub mod Ranged
pub mod GrownLinks
pub mod GrownEntries
pub mod GrownDomain
pub mod ScheduleLines
