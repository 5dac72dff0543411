pub mod Kinds
pub mod Severities
pub mod Lints
pub mod Marks
pub mod Texts
pub mod Tells
pub mod Runs
