pub mod AnswerLaws
pub mod Answers
pub mod Changes
pub mod Laws
