pub mod Dialogues
pub mod Talks
pub mod Endings
pub mod Forms
