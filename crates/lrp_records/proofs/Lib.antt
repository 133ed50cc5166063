pub mod Public
pub mod Ties
pub mod MoveLaws
