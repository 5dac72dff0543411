pub mod ListFacts
pub mod MarkFacts
pub mod KindFacts
pub mod LintFaults
