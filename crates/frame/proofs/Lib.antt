-- The laws of a frame by weights.
pub mod Counting
pub mod Ranks
pub mod Ahead
pub mod Shares
pub mod Taken
pub mod LaidTurns
pub mod Laying
pub mod Order
pub mod Promises
pub mod Making
pub mod Unique
pub mod Examples
