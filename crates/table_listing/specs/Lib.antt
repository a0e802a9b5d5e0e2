pub mod Permuted
pub mod Listing
