mod OneActor
mod Taking
mod ByLine
pub mod Public
