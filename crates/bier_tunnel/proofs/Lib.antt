pub mod StepLemmas
pub mod WayLemmas
pub mod OnwardLemmas
