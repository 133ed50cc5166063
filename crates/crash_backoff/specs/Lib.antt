pub mod Backoff
