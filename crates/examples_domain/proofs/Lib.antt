pub mod OnLiterals
pub mod BranchLaws
pub mod CarriedLaws
pub mod CourseCases
