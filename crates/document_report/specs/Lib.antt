pub mod Reports
pub mod Documents
pub mod Given
pub mod Texts
pub mod Parts
