mod Logs
mod Moments
mod Calls
mod Doings
mod Turns
mod Names
mod Rounds
mod Agreeing
mod PhasesAgree
mod Said
mod Faithful
mod KeepBase
mod Counted
mod ItemsAnswered
mod ByLine
mod OwnAnswers
mod ItsCells
pub mod Public
