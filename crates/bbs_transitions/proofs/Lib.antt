mod Doable
pub mod After
pub mod Public
