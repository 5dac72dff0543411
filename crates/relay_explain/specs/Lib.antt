pub mod Explanations
pub mod ExplanationText
pub mod AskedTexts
pub mod PiecedTexts
pub mod Tellings
