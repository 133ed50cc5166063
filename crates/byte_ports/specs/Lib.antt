pub mod Cause
pub mod Content
pub mod FailingCalls
pub mod Memory
pub mod Read
