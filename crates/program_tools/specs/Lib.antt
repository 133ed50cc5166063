pub mod Level
pub mod Numbers
pub mod Records
pub mod Showing
pub mod Still
pub mod Words
