pub mod StoreLaws
pub mod PartLaws
pub mod LineLaws
pub mod ItemLaws
