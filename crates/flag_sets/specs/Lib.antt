pub mod FlagTexts
pub mod Slashes
pub use Rattle.spell_types.specs.Flags
