pub mod Requests
pub mod Envelopes
