pub mod Groups
pub mod Spread
pub mod Spots
pub mod Together
