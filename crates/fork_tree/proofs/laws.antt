pub mod Crossing
pub mod Ordering
