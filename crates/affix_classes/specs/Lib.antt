pub mod ConditionTexts
pub mod Undoing
