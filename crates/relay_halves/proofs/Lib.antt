pub mod HalvedLines
pub mod HalvedLogicalLines
pub mod PartsTogether
