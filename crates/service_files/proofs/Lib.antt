pub mod Faults
pub mod OwnLines
pub mod laws
