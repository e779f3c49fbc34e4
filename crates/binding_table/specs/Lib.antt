pub mod inner
pub mod Nothing
pub mod Shards
pub mod Changes
