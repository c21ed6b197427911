-- The laws of the ops that their own proofs and other crates cite.
pub mod Operations
pub mod Ticks
