pub mod WalkLaws
pub mod BothLaws
pub mod CompareLaws
