pub mod Opened
pub mod Readings
pub mod Public
