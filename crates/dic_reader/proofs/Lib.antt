pub mod CuttingLemmas
pub mod EntryLemmas
pub mod FaultLemmas
pub mod FileLemmas
pub mod KnownLemmas
pub mod OrderLemmas
pub mod TurnLemmas
