pub mod Tunnels
