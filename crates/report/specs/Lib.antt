pub mod Limits
pub mod Lines
pub mod Planrun
pub mod Theorems
