pub mod Opened
pub mod Entries
pub mod Kept
pub mod Doubts
pub mod Puts
pub mod View
pub mod Adds
