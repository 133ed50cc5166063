pub mod Field
pub mod Front
pub mod Reading
pub mod Laws
