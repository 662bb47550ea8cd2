pub mod Fresh
pub mod Gentle
pub mod Idle
pub mod Settled
pub mod Width
pub mod Ups
pub mod Csnps
