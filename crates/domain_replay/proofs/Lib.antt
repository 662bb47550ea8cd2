pub mod Stays
pub mod TellingLaws
pub mod TellsLaws
mod StopLaws
pub mod DirectionLaws
pub mod EventTells
pub mod InTurn
pub mod IdleLaws
pub mod SendLaws
pub mod LineTells
mod SameDomain
pub mod CourseLaws
pub mod PartLaws
