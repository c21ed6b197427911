-- The laws of the cache that other crates cite.
pub mod Counts
pub mod Emptied
pub mod Flushed
pub mod Laws
pub mod Missed
pub mod Outcome
pub mod Ticks
pub mod Ways
pub mod WriteBacks
