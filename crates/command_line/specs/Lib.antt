pub mod Form
pub mod CommandLine
pub mod Words
