-- The laws of the step bound.
pub mod Largest
pub mod Answers
pub mod Reached
