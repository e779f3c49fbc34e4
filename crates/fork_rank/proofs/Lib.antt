mod Common
pub mod FallingValues
pub mod Grouped
pub mod Members
mod Numbers
pub mod Places
mod PreferredLists
pub mod TextCommon
pub mod laws
