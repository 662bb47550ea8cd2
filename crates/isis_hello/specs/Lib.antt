pub mod Adjacency
pub mod Circuits
pub mod Events
pub mod Examples
pub mod Faults
pub mod Hello
pub mod History
pub mod Changes
