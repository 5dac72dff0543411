pub mod CheckFaults
