pub mod Answers
pub mod Finishing
