pub mod Faults
pub mod Names
pub mod Rows
pub mod FlaggedTexts
pub mod Causes
pub mod Grammar
pub mod Passes
