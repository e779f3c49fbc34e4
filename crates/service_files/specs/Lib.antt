pub mod Configured
pub mod Faults
pub mod Memory
pub mod OwnLine
pub mod Queue
pub mod Secret
