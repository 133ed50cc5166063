pub mod Views
pub mod Rule
pub mod Steps
pub mod Turns
pub mod Tables
pub mod Passes
pub mod Ends
