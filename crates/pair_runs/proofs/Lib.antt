pub mod ByLine
pub mod Lists
pub mod Phrases
pub mod Playing
pub mod Prints
pub mod Public
pub mod Serving
pub mod Taking
