pub mod Found
pub mod Hosts
pub mod Only
pub mod Values
