pub mod Answered
pub mod Drained
pub mod Ends
pub mod Grows
pub mod Spelled
