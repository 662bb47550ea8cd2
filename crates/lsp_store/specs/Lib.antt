pub mod EntryLists
pub mod Keys
pub mod Places
pub mod Topologies
pub mod Views
