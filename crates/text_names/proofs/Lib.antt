pub mod CompareLaws
pub mod CodeLaws
pub mod InsideLaws
pub mod WalkLaws
pub mod ShapeLaws
pub mod PackLaws
