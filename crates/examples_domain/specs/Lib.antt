pub mod Branch
pub mod Members
pub mod Worked
pub mod Worlds
