pub mod Links
pub mod Routers
pub mod Entries
pub mod Domain
pub mod Schedule
