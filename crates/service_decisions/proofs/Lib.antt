pub mod Opened
pub mod Parts
