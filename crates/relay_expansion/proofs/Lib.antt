pub mod WalkFacts
pub mod DotFacts
pub mod TreeFacts
