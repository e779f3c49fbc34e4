pub mod Crossing
pub mod Lines
pub mod TextLines
