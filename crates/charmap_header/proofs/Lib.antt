pub mod FirstLaws
pub mod SignLaws
pub mod OutcomeLaws
pub mod WordLaws
pub mod EndLaws
pub mod NameLaws
