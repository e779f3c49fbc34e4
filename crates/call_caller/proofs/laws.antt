pub mod Crossing
pub mod Destinations
