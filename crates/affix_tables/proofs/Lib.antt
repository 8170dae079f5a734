mod EndLemmas
mod EntryLemmas
mod GatherLemmas
mod GroupLemmas
pub mod LawLemmas
mod OrderLemmas
mod PlaceLemmas
mod TableLemmas
