pub mod Builds
pub mod Written
