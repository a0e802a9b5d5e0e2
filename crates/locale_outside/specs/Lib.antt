pub mod Outside
pub mod Stretches
