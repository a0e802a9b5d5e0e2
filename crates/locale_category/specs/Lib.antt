pub mod Blocks
pub mod Category
