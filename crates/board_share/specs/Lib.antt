pub mod Logs
pub mod Eyes
pub mod Namings
pub mod Fronts
pub mod Events
pub mod Endings
pub mod Settled
pub use Rattle.edit_core.specs as edit_core
pub use Rattle.edit_core.specs.paragraph_text as paragraph_text
