pub mod Outcomes
pub mod Domains
pub mod Transfers
pub mod Gathering
pub mod Checks
pub mod Planners
pub mod Returns
pub mod ReturnLines
