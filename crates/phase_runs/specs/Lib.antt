pub mod Boards
pub mod Actors
pub mod Names
pub mod RoundMarks
pub mod Reps
pub mod Rounds
pub mod Phases
