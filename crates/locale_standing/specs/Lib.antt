pub mod Standing
pub mod Refusing
