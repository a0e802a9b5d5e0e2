pub mod NameLaws
pub mod BranchLaws
