mod Turning
mod Sharing
mod Sent
pub mod Public
