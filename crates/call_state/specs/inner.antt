pub mod AnswersInside
pub mod CallStateInside
pub mod Matching
pub mod Plain
pub mod StatesShown
