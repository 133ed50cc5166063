mod Names
mod Parts
mod Places
mod InTurn
mod Cells
mod PutBack
mod RoundsAlone
mod WholePhases
pub mod Public
