pub mod Keyed
pub mod Begun
