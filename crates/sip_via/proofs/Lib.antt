pub mod Common
pub mod laws
pub mod ViaWalk
pub mod FrontLaws
pub mod TrimmedLen
pub mod ViaReads
pub mod SentLaws
pub mod OwnSent
