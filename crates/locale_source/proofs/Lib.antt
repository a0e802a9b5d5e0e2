pub mod AfterLaws
pub mod SourceLaws
