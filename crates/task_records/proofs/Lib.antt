pub mod MoveLaws
pub mod LifeLaws
pub mod Public
