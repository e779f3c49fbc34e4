pub mod LineEnds
pub mod Number
pub mod Sheltered
