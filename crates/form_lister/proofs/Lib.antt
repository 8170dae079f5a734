pub mod AcceptLemmas
pub mod ChoiceLemmas
pub mod FormLemmas
pub mod FoundLemmas
pub mod OrderLemmas
pub mod WalkLemmas
