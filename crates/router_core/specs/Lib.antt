pub mod Aging
pub mod Bounds
pub mod SnpNeeds
pub mod Keeping
pub mod Own
pub mod Received
pub mod Sending
