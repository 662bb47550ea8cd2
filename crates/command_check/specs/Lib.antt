pub mod Checked
pub mod Turning
pub mod Verdicts
