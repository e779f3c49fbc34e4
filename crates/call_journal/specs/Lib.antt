pub mod Head
pub mod Why
pub mod Notes
pub mod Block
pub mod Shown
pub mod Since
