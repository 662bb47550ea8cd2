pub mod ReadLemmas
pub mod SumLemmas
pub mod WriteLemmas
