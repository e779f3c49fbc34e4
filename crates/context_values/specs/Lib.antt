pub mod EventView
pub mod ReplyView
pub mod RowExtras
pub mod inner
