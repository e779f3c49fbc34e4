mod Pieces
pub mod laws
