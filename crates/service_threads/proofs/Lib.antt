pub mod Faults
pub mod Sharing
