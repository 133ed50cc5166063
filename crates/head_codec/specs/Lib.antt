pub mod Head
pub mod Seen
