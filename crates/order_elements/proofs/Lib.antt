pub mod CutLaws
pub mod AlikeLaws
pub mod CommonLaws
pub mod FirstLaws
pub mod CompareLaws
