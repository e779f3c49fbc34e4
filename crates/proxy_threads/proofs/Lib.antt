mod CallIds
mod InOrder
pub mod laws
