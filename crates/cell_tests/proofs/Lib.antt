pub mod Boards
pub mod Doubts
pub mod Chains
