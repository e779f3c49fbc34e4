-- What tests of the call layer rest on.
pub mod Begun
pub mod Kept
pub mod ReadBranch
