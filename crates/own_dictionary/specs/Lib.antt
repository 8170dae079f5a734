pub mod Bases
pub use Rattle.dictionary_swap.specs as dictionary_swap
pub use Rattle.personal_words.specs as personal_words
