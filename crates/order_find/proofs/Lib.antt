pub mod BeginningLaws
pub mod ListedLaws
pub mod KeyLaws
pub mod SearchLaws
pub mod LookLaws
pub mod QuickLaws
pub mod FoundLaws
