pub mod LineReading
pub mod LineView
pub mod Reading
pub mod Hosts
