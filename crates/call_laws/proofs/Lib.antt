pub mod Accepted
pub mod Acks
pub mod Branches
mod Calls
pub mod Cancelled
pub mod Content
pub mod EachDatagram
pub mod Finals
pub mod InRun
pub mod Last
pub mod Logged
mod Machines
pub mod Origins
pub mod Paying
pub mod Running
pub mod Sending
pub mod Serving
pub mod Standing
mod Steps
pub mod Succeeds
pub mod Successes
pub mod Waits
