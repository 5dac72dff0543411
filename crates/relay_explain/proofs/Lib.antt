pub mod Pieces
pub mod AskedFacts
mod TellingFacts
