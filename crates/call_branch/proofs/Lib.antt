pub mod Common
pub mod KeptReasons
pub mod laws
