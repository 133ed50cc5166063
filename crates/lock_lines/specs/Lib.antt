pub mod Members
pub mod Operations
pub mod Commands
pub mod Reading
pub mod Causes
pub mod Printed
