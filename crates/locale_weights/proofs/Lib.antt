pub mod RefusalLaws
pub mod MadeLaws
pub mod SplitLaws
pub mod NextLaws
pub mod NamedLaws
pub mod ByLaws
pub mod WeightLaws
