pub mod Once
pub mod Pieces
