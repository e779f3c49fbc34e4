mod DeadlinesListed
mod InOrder
pub mod Listing
pub mod Walking
pub mod laws
