pub mod Outcomes
pub mod Plain
pub mod Body
