pub mod Pairs
pub mod Meanings
pub mod Numbered
pub mod ByDomain
