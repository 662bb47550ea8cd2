pub mod DomainFile
pub mod Routers
pub mod Named
pub mod NodeRun
pub mod Owed
