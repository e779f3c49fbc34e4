pub mod Common
pub mod laws
pub mod ByKeySteps
pub mod GroupSteps
pub mod NewRowLists
pub mod Alike
