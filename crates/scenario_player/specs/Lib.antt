pub mod Actors
pub mod Kept
pub mod Wordings
pub mod Courses
pub mod Plays
pub mod Tellings
