pub mod Domains
pub mod Entries
pub mod Floods
pub mod Frames
pub mod Tunnels
pub mod Vectors
pub mod Views
