pub mod Schedules
pub mod Arrival
