mod DeedLemmas
mod MoveLemmas
mod AreaLemmas
mod Bytes
pub mod Public
pub mod Ranges
pub mod Steps
pub mod Told
mod PickLemmas
mod ChoiceLemmas
