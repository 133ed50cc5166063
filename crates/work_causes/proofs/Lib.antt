mod Bools
pub mod Parts
pub mod Tell
pub mod Alike
pub mod Public
