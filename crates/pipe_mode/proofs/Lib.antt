pub mod LeastLemmas
pub mod LineLemmas
pub mod PipeLemmas
pub mod StemLemmas
