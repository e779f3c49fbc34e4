pub mod NewDestinations
pub mod Queue
pub mod Views
