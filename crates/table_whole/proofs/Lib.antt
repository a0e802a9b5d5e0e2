pub mod FrontLaws
pub mod TableLaws
pub mod BuildLaws
