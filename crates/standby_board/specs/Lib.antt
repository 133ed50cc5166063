pub mod Pairs
pub mod Images
pub mod Calls
pub mod Steps
pub mod Ends
pub mod Laws
