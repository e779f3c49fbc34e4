pub mod LineView
pub mod Near
pub mod ReadView
pub mod Shown
pub mod Spelled
pub mod Stored
pub mod Text
pub mod TreeRows
