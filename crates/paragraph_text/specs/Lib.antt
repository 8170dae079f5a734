pub mod Paragraphs
pub mod Edits
pub mod Laws
