pub mod Joined
pub mod LastRun
pub mod Sides
pub mod Told
