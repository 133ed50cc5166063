pub mod CauseLemmas
pub mod ContentLemmas
mod Moves
