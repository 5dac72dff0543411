pub mod Buckets
pub mod KeyLimits
pub mod Keys
pub mod Chains
pub mod TextHash
pub mod Links
pub mod Interner
