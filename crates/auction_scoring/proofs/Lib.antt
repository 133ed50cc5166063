pub mod Public
pub mod Ties
