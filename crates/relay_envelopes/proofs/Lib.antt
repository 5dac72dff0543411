pub mod HeadingFacts
pub mod JoiningFacts
pub mod ReplacedFacts
pub mod SectionFacts
pub mod JsonLineFacts
