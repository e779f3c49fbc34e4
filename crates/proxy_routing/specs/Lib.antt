pub mod inner
pub mod Admission
pub mod OwnCredentials
pub mod OwnRoutes
pub mod Refusing
pub mod Targets
pub mod Unrouted
