pub mod PartLaws
pub mod HeadingLaws
pub mod PageLaws
pub mod AnswerLaws
