pub mod Stream
pub mod Stretches
