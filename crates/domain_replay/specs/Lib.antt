pub use Rattle.replay_report.specs.Lines
pub use Rattle.replay_report.specs.Captures
pub use Rattle.replay_report.specs.Counting
pub mod Texts
pub mod Telling
pub mod Replaying
pub mod Courses
pub mod Parts
