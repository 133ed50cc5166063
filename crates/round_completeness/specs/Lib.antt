pub mod Rooms
pub mod Ends
pub mod Left
pub mod Completeness
