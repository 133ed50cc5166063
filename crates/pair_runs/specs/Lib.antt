pub mod Accounts
pub mod Calls
pub mod Phases
pub mod Served
pub mod Telling
pub mod Turns
