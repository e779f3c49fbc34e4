pub mod FaultView
pub mod Faults
pub mod ReadView
pub mod Reading
pub mod Workers
