pub mod Fits
pub mod Score
pub mod Order
