pub mod Accepted
pub mod Answerable
pub mod Facts
pub mod Faults
pub mod Lines
pub mod Names
pub mod TextLines
pub mod Tracked
