pub mod Exchanged
pub mod ForwardedOthers
pub mod ViaPieces
pub mod ViasForwarded
