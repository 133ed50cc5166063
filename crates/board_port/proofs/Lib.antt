mod Marks
mod Sole
pub mod Public
