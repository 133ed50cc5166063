pub mod Entries
pub mod Routes
pub mod Routing
pub mod Keeping
pub mod Lines
pub mod Near
pub mod Plans
