pub mod EndLemmas
pub mod DueLemmas
