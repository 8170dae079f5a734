mod LineLemmas
mod PartLemmas
mod ReportLemmas
mod ShareLemmas
