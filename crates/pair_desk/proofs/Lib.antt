mod Calls
mod Turning
mod Closing
mod Sent
pub mod Public
