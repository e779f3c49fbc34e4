pub mod Common
pub mod laws
pub mod BranchLaws
pub mod BranchPlaced
pub mod KeyDigits
