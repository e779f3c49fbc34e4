pub mod Loop
pub mod LoopTest
pub mod RequestKey
pub mod RouteValues
pub mod Stripping
