pub mod Metrics
pub mod Page
