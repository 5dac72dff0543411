pub mod Walks
pub mod Closures
pub mod Searches
pub mod Bits
pub mod Blocks
pub mod Shards
pub mod Winners
