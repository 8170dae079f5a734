pub mod Paragraphs
pub mod Judging
pub mod Stepping
