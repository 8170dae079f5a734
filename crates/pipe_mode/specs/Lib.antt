pub mod Answers
pub mod Pipes
pub mod Prepared
pub mod Stems
