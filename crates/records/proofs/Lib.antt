-- The laws of the log that other crates cite.
pub mod Parts
pub mod Places
