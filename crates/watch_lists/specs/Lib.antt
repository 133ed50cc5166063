pub mod Groups
pub mod Watching
pub mod Endings
pub mod Watched
pub mod Shifting
