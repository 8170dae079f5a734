pub mod Judging
pub mod Patterns
pub mod Occurrences
pub mod Pieces
