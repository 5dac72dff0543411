pub mod Headings
pub mod Replaced
pub mod Kinds
pub mod Sections
pub mod EachText
pub mod EachJson
pub mod Envelopes
