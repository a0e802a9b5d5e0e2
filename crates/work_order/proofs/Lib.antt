pub mod ListLaws
pub mod RankLaws
pub mod MoveLaws
