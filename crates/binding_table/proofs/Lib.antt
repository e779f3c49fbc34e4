mod Named
mod Found
pub mod laws
