pub mod Good
pub mod Methods
pub mod Whole
