pub mod CallId
pub mod Groups
pub mod Runs
pub mod Next
pub mod Waits
