pub mod LineValues
pub mod OwnCredentials
pub mod OwnRoutes
pub mod ReadTops
