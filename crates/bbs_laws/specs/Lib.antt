pub mod Births
pub mod Laws
pub mod Events
pub mod Hearing
