pub mod Rows
pub mod NodeWords
pub mod Trees
pub mod Dots
pub mod GraphTexts
