pub mod Blocks
pub mod BlockLengths
pub mod LineFacts
