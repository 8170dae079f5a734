pub mod Answers
pub mod Lines
pub mod Ends
pub mod Turns
pub mod Laws
