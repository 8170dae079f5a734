mod NameLemmas
mod RowLemmas
mod ReadLemmas
mod PassLemmas
