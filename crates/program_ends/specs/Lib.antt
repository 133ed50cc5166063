pub mod Ending
pub mod Opening
pub mod Ports
pub mod Reading
