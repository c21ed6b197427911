pub mod Limits
pub mod Lowest
pub mod Reach
pub mod Latest
pub mod Script
pub mod Answer
pub mod Bounds
