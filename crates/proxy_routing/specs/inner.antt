pub mod TakenOff
pub mod Unrouted
