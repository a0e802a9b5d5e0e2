pub mod OutcomeLaws
pub mod FirstLaws
pub mod PlainLaws
pub mod BodyLaws
