pub mod CharLaws
pub mod NumberLaws
pub mod Fields
pub mod LowerLaws
