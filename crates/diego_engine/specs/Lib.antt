pub mod Headline
pub mod InMemory
pub mod Top
pub mod Serial
pub mod Restarts
pub mod PhaseEnds
