pub mod CharsLaws
pub mod BlockLaws
pub mod BranchLaws
pub mod ChainLaws
pub mod StrayLaws
pub mod CategoryLaws
