mod Splits
mod PartFacts
