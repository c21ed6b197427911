-- The laws of the machine that its own proofs and other crates cite.
pub mod Fetched
pub mod Going
pub mod Invariant
pub mod LeastPad
pub mod Runs
pub mod Schedule
pub mod Switched
pub mod Turns
pub mod WholeTurns
pub mod Windows
pub mod Keeping
