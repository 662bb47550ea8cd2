pub mod LiveLaws
pub mod LiveRecords
pub mod HelloLaws
pub mod HelloRecords
pub mod Verdicts
pub mod HappenLaws
