pub mod Bift
pub mod Neighbours
pub mod Any
