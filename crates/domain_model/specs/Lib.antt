-- The model of a running domain.
pub mod Faults
pub mod Moves
pub mod Run
pub mod Step
pub mod Truth
pub mod Wires
pub mod World
