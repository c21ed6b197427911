-- The laws of the writer: what is left to write, and how long lines are.
pub mod Rest
pub mod Lengths
pub mod Pieces
pub mod Recipients
pub mod Scripts
pub mod StoreParts
pub mod TextParts
pub mod Answers
