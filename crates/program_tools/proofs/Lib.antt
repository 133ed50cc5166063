pub mod Laws
pub mod NumberTexts
pub mod AskedLaws
pub mod OneWord
pub mod OtherWords
pub mod Public
pub mod Shown
