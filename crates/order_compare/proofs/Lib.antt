pub mod CodeLaws
pub mod LevelLaws
pub mod FirstLaws
pub mod CallLaws
pub mod AnswerLaws
