pub mod Members
pub mod Walking
pub mod Numbered
pub mod Keyed
pub mod MarkFacts
pub mod NodeFacts
pub mod Counted
pub mod Rooted
