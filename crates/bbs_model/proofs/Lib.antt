pub mod Each
pub mod Scans
pub mod Views
pub mod Public
