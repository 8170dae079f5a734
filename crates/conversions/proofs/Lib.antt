pub mod Steps
pub mod Best
pub mod Patterns
pub mod Rows
pub mod Ignoring
pub mod Variants
