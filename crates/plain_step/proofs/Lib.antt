pub mod Scans
pub mod Running
pub mod Plains
pub mod Public
