pub mod Distinct
pub mod Ending
pub mod Refused
pub mod Scheduled
pub mod SeenAction
pub mod Timing
