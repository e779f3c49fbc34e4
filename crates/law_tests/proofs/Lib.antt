pub mod Played
pub mod Concluded
