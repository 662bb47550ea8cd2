pub mod Sums
pub mod Tunnels
