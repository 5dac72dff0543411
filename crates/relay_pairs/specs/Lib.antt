pub mod Pairs
pub mod Marks
pub mod Bounds
pub mod Chains
