pub mod Store
pub mod Changes
pub mod Jobs
pub mod Lookups
pub mod Entries
pub mod Inside
pub mod Laws
