pub mod ChoiceLaws
pub mod DifferLaws
pub mod LiveLaws
pub mod PathLaws
pub mod PathsLaws
