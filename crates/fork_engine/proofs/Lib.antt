pub mod Alone
pub mod Counted
mod Crossing
mod Done
mod DraftedWorkers
mod Drafting
mod Ends
mod Faulty
pub mod Least
pub mod Plainly
mod Posts
mod Running
mod SpelledWorkers
pub mod Steps
