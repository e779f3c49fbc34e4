pub mod Crossing
pub mod BranchLists
