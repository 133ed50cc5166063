pub mod Answering
pub mod Ending
pub mod Ends
pub mod Ports
pub mod Reading
pub mod Telling
pub mod Words
