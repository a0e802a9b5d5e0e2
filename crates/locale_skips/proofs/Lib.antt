pub mod WordLaws
pub mod RunLaws
pub mod LineWordLaws
pub mod LineRuns
pub mod BranchLaws
pub mod CategoryLaws
pub mod NameLaws
