pub mod Consoles
pub mod OwnConsoles
pub mod Boards
pub mod BoardAnswers
pub mod Transcripts
pub mod Starts
