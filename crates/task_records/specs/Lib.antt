pub mod States
pub mod Steps
pub mod Moves
pub mod Laws
pub mod Life
