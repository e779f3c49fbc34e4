pub mod Deadlines
pub mod Faults
pub mod Inbox
pub mod Removals
pub mod inner
