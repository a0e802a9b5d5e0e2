pub mod PairLaws
pub mod RunLaws
pub mod ReportLaws
pub mod FeedLaws
