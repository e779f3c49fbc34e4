pub mod Steps
pub mod Places
mod Refused
mod Members
mod Sameness
mod Requests
mod Histories
mod Sixteen
