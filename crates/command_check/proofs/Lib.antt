pub mod SaidChecks
pub mod Beginning
pub mod CheckCourse
pub mod CheckMet
pub mod VerdictLaws
pub mod SettleChecks
