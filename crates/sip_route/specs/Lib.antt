pub mod Hops
pub mod Lines
pub mod Loop
pub mod LoopTest
pub mod RequestKey
pub mod RouteValues
pub mod Routes
pub mod inner
