pub mod FinishLaws
pub mod TableLaws
pub mod RankLaws
pub mod CallLaws
pub mod AnswerLaws
pub mod CodeLaws
