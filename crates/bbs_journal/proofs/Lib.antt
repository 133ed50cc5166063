mod Bytes
pub mod Frames
mod Turning
mod Keeping
mod Written
mod Resuming
mod Unique
pub mod Peeking
mod InPart
mod Reading
mod FrameAt
mod NextFrame
mod Pieces
pub mod Opening
mod Choosing
mod Loads
mod Kept
pub mod Sides
mod AreaWriting
pub mod Once
mod Version
mod Readable
pub mod Accepted
pub mod Public
pub mod Recovered
pub mod Newer
pub mod Outcomes
pub mod Stops
