pub mod Presence
pub mod Place
pub mod States
pub mod Steps
pub mod Moves
pub mod Laws
