pub mod inner
pub mod RowShown
pub mod LeftView
pub mod Led
pub mod Came
pub mod Sound
pub mod Closing
pub mod Refusals
