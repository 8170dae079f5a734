pub mod Seen
pub mod Events
pub mod Steps
pub mod Views
pub mod Laws
pub mod Runs
pub use Rattle.paragraph_text.specs as paragraph_text
