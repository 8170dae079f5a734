pub mod BackLemmas
pub mod PieceLemmas
