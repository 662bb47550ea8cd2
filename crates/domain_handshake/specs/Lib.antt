pub mod Lines
pub mod Handshakes
pub mod Doing
pub mod Within
pub mod Following
