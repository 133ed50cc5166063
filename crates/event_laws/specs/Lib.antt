pub mod Told
pub mod Frame
pub mod Incarnations
