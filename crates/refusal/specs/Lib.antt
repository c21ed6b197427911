pub mod Checks
pub mod Code
pub mod Verdict
