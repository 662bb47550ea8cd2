pub mod OnLiterals
pub mod ArrivalLaws
pub mod ArrivalRun
