pub mod BiftLaws
pub mod NeighbourLaws
