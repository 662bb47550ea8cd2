pub mod Frames
pub mod Lines
pub mod Owed
pub mod TopoText
