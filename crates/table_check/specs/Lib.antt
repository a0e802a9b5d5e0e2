pub mod Checks
pub mod Walk
pub mod Answers
