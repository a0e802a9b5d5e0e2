pub mod KeywordLaws
pub mod CollateLaws
pub mod OpenLaws
