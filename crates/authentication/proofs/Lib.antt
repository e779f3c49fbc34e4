mod Fronts
pub mod Once
pub mod Opened
pub mod Tokens
pub mod Values
pub mod Verdicts
pub mod laws
