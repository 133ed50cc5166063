pub mod Lacks
pub mod Reasons
pub mod Rooms
pub mod Placings
pub mod Laws
