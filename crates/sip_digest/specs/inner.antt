pub mod Added
pub mod Reading
pub mod SeenFields
pub mod SoFar
pub mod Targets
pub mod UsersReading
pub mod Verdict
