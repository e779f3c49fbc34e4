pub mod Heads
pub mod Frames
pub mod Streams
pub mod Messages
pub mod Texts
