pub mod Spelled
pub mod Line
pub mod Writing
