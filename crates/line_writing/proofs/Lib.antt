pub mod Lines
pub mod Public
