pub mod Head
