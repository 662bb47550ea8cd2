-- Replays.
pub mod Moments
pub mod Reports
pub mod Once
pub mod Promises
pub mod Paths
pub mod Settling
