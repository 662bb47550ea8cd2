pub mod FirstStates
pub mod Validity
