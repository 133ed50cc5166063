mod Own
pub mod Others
mod Told
mod Over
mod Onward
pub mod Public
