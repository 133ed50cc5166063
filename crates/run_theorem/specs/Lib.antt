pub mod Answers
pub mod Actors
pub mod Phases
pub mod Cuts
pub mod Headline
pub mod Ends
pub mod Laws
