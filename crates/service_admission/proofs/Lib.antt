mod Looking
mod Rates
mod Running
mod Sweeping
pub mod laws
