pub mod Loops
pub mod Places
pub mod Bounds
pub mod Searches
pub mod Judging
pub mod Naming
pub mod Leading
