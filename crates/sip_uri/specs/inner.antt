pub mod Checked
pub mod Hop
pub mod Host
pub mod Key
pub mod Progress
pub mod Seen
pub mod Tail
