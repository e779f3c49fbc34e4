pub mod FaultView
pub mod Faults
pub mod Input
pub mod Line
pub mod LineView
pub mod Replay
