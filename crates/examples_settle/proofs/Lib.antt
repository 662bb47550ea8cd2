pub mod OnLiterals
pub mod AllowedLaws
pub mod RunLaws
mod QuietRest
pub mod ComparedLaws
