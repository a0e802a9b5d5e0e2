pub mod Force
pub mod Signed
