pub mod Words
pub mod Handed
pub mod Commands
pub mod CommandLines
pub mod Scripts
pub mod Replies
