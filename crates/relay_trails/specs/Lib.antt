pub mod Trails
pub mod Steps
pub mod Searches
pub mod Answers
pub mod Chains
