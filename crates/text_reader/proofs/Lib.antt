pub mod HeldLaws
pub mod HoldsLaws
