pub mod CallStateInside
pub mod Kinds
pub mod Matching
pub mod SeenMatchedTransaction
pub mod inner
