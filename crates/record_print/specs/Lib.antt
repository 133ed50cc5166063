pub mod Words
pub mod Spelled
pub mod Causes
pub mod PrintedRows
pub mod Printed
pub mod PrintedRounds
pub mod Jobs
