pub mod Registered
pub mod SeenPlace
pub mod SeenRegistered
pub mod SeenServing
pub mod Served
pub mod Serving
pub mod Targets
