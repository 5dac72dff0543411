pub mod RoutesFound
pub mod Ways
pub mod KnownWays
pub mod Numbering
pub mod Domains
