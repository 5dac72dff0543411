pub mod RingLists
pub mod Links
pub mod Walks
pub mod Batches
pub mod Sound
