pub mod DomainFiles
pub mod Told
pub mod Named
pub mod NodeDone
pub mod NodeLaws
pub mod NodeSteps
pub mod NodeRecords
