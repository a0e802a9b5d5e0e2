pub mod Numbers
pub mod Rules
pub mod Levels
pub mod Writing
