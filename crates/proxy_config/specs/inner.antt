pub mod OwnKey
pub mod Reading
pub mod UserPlaces
pub mod WaysInside
