pub mod PatternTexts
pub mod States
