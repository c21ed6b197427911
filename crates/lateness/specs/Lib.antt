pub mod Lateness
pub mod Theorems
