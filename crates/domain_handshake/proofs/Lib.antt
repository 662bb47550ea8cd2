pub mod Parts
pub mod Steps
pub mod WithinLaws
pub mod Keeping
pub mod WorldUps
pub mod FollowLaws
pub mod StartLaws
