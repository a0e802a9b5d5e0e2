pub mod Answers
pub mod Read
