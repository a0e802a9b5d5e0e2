pub mod Answers
pub mod Asks
