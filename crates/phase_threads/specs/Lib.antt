pub mod Acting
pub mod Clients
pub mod Holding
pub mod Rooms
pub mod Sharing
