pub mod Faults
pub mod JsonText
pub mod Lists
pub mod Public
pub mod SoundLines
