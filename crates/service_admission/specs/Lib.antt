pub mod Admission
pub mod Bucket
pub mod Draining
pub mod KeepAlive
pub mod Limits
pub mod Places
pub mod Quota
pub mod Runs
