pub mod BranchText
pub mod inner
