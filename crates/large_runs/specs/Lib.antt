pub mod Silent
pub mod Large
