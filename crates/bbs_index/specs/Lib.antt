pub mod Shelf
pub mod Order
pub mod Index
pub mod Room
pub mod Redone
