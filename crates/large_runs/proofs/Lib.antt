mod EmptyBoard
mod Calm
mod Silence
mod Texts
mod Printed
mod Laws
pub mod Public
