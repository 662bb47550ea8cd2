pub mod Hops
pub mod Kept
pub mod Packets
pub mod SentFrames
pub mod Sets
pub mod Tunnels
