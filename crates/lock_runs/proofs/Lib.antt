mod Joining
mod OneLine
mod Counting
mod Telling
mod Endings
pub mod Laws
pub mod Public
