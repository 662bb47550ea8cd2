pub mod Answers
pub mod Flags
pub mod Kept
pub mod MaskLists
pub mod Masks
