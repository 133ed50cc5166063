pub mod Among
pub mod Fitting
pub mod JsonText
pub mod Kept
pub mod Known
pub mod ListedNames
pub mod Objects
pub mod Public
