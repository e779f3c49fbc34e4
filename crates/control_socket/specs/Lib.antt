pub mod Clients
pub mod Commands
pub mod Requests
