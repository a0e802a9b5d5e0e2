pub mod HeaderLaws
pub mod EntryLaws
pub mod EmptyLaws
pub mod ReadLaws
pub mod AnswerLaws
pub mod CodeLaws
