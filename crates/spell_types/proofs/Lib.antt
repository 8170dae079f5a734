pub mod CompoundLemmas
pub mod FlagLemmas
pub mod PatternLemmas
pub mod ReplacementLemmas
pub mod RowLemmas
pub mod TextLemmas
