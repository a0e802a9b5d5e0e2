pub mod Named
pub mod Shape
pub mod Packed
