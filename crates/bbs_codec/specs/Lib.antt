pub mod Format
pub mod Formats
pub mod RowFormats
pub mod Ops
pub mod Command
