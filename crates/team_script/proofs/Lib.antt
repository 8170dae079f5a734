mod LineLemmas
mod PairLemmas
mod FileLemmas
mod BreakLemmas
mod SessionLemmas
mod NameLemmas
mod CauseLemmas
