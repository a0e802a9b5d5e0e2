pub mod Opening
pub mod Pieces
