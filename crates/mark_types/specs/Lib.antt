pub mod Characters
pub mod Words
pub mod Marks
pub mod Handed
pub use Rattle.spell_types.specs as spell_types
pub use Rattle.text_lines.specs as text_lines
pub use Rattle.text_lines.specs.lists as lists
