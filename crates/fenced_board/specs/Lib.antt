pub mod Fences
pub mod Calls
pub mod Laws
