pub mod Items
pub mod Filling
