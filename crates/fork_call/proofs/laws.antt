pub mod AnswersWithout
pub mod Crossing
pub mod Prepared
pub mod Readable
pub mod WithToken
