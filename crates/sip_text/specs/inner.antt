pub mod Found
pub mod Heads
pub mod Kept
pub mod Seen
pub mod Within
