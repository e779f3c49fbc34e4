pub mod Becomes
pub mod Sent
