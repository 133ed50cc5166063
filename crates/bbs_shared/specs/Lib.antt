pub mod Boards
pub mod Passes
pub mod Sharings
