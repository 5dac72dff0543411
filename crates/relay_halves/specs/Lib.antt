pub mod Halves
pub mod PartReads
