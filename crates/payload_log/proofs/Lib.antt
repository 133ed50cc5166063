pub mod Logs
pub mod Doubting
pub mod Mending
pub mod Keeping
pub mod Held
pub mod Adding
pub mod Begun
pub mod Public
