pub mod Common
pub mod Admitting
pub mod laws
pub mod GoodLeft
pub mod Refused
pub mod TakenOff
pub mod Cookies
