pub mod PathLaws
pub mod Steps
