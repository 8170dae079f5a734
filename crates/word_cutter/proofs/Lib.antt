pub mod CharacterLemmas
pub mod CutLemmas
pub mod LetterLemmas
