pub mod Further
pub mod Going
pub mod Went
