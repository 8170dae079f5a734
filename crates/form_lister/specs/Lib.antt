pub mod Choices
pub mod Forms
pub mod Found
pub mod Walks
