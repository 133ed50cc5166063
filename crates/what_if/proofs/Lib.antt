pub mod Lists
pub mod Names
pub mod Differing
pub mod Rows
pub mod Finding
pub mod Agreeing
pub mod Open
pub mod Holding
mod Turns
pub mod Bare
pub mod Few
mod Planned
mod Parts
mod VerdictLemmas
mod SoundSites
mod InOrder
mod Grouped
pub mod Left
mod Taking
mod Reordered
pub mod Awaiting
mod AlikeCells
mod KeptCells
mod AlikePlans
