mod QueueLemmas
mod RelaxLemmas
mod SettleLemmas
mod SkipLemmas
mod WaysLemmas
mod ReachLemmas
mod CostLemmas
pub mod ForwardLemmas
mod SearchLemmas
