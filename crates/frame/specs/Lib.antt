pub mod Limits
pub mod Quotas
pub mod Turns
pub mod Frame
pub mod Theorems
pub mod Examples
