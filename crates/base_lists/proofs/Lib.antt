pub mod Bools
pub mod Places
pub mod Lists
pub mod Runs
