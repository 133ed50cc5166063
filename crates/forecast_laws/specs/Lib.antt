pub mod Plans
pub mod Rooms
pub mod Records
pub mod Losses
