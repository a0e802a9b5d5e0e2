pub mod ArrayLaws
pub mod AnswerLaws
