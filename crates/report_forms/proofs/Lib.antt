pub mod DueLemmas
pub mod ReportLemmas
pub mod ListingLemmas
pub mod MadeLemmas
