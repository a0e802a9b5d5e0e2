pub mod Ranks
pub mod Reading
