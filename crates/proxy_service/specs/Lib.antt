pub mod Handling
pub mod Journal
pub mod Noting
pub mod Setups
