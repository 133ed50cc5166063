pub mod Complete
pub mod Alone
pub mod Accounts
pub mod Losses
pub mod Lacks
