pub mod Behind
pub mod Entries
pub mod Tables
pub mod StreamReads
pub mod StreamWrites
pub mod laws
