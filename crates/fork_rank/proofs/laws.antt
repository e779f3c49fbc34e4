pub mod Field
pub mod Lines
pub mod Pieces
pub mod Preferred
