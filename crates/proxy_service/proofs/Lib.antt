pub mod laws
pub mod KeptNumbers
mod Noted
