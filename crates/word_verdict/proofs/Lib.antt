pub mod AcceptLemmas
pub mod NumberLemmas
