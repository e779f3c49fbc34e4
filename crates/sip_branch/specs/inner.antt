pub mod BranchParts
