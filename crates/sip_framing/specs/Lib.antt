pub mod Frame
pub mod Head
pub mod Length
pub mod Message
pub mod Stream
pub mod Text
