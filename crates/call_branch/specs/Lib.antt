pub mod AckOwed
pub mod BranchInside
pub mod OpenedRequestInside
pub mod Views
pub mod inner
