pub mod Bytes
pub mod Endings
pub mod EndLaws
pub mod Telling
