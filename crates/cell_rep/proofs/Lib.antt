pub mod Asked
pub mod Chains
pub mod Cells
pub mod Starts
pub mod Public
