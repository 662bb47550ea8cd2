pub mod CopyLaws
pub mod NextLaws
