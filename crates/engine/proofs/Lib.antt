-- The laws of the entry points that their proofs and other crates cite.
pub mod Computing
pub mod FreshRuns
pub mod KeptCalls
pub mod Passing
pub mod Verdicts
pub mod StepBounds
