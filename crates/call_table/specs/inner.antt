pub mod KeyTable
pub mod Entries
