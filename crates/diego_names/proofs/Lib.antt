pub mod Bytes
pub mod Padded
pub mod Public
pub mod Text
pub mod Ties
