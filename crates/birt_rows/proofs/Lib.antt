mod DescentLaws
mod EntryLemmas
mod OwnerLemmas
mod RowLemmas
