pub mod Counting
pub mod Cutting
pub mod Differing
pub mod Finding
pub mod Going
pub mod Kept
pub mod SoundDumps
pub mod Zones
