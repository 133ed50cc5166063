pub mod Sorting
pub mod Asking
pub mod Answers
pub mod Texts
pub mod Laws
