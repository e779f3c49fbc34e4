pub mod Bindings
pub mod Registering
pub mod History
pub mod Seen
