pub mod ContactLists
pub mod Values
pub mod Outcomes
pub mod Passwords
pub mod Dates
