pub mod GeneratedGood
pub mod Named
