pub mod Settling
pub mod Frames
pub mod Loaded
pub mod LongHeads
pub mod Logs
pub mod Mending
pub mod Public
pub mod Storing
pub mod Writing
pub mod Beside
pub mod Keeping
pub mod Steps
pub mod Adding
pub mod Doubting
pub mod Held
pub mod Moving
pub mod Compacting
pub mod Checkpointing
pub mod Closing
pub mod Adds
pub mod Filling
pub mod Short
pub mod Counting
pub mod Drafting
pub mod Again
pub mod Completing
mod Outcomes
mod Tracking
