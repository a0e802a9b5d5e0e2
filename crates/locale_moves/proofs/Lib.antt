pub mod NamedLaws
pub mod AfterLaws
pub mod EndLaws
