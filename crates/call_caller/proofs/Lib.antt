pub mod Common
pub mod NewDestinations
pub mod NewPlaces
pub mod Weights
pub mod laws
