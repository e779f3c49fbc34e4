pub mod Forwarding
pub mod HeaderRuns
pub mod Placed
pub mod Texts
pub mod ToTarget
