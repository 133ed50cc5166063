pub mod Cells
pub mod Cases
pub mod Turns
pub mod Fits
pub mod Questions
