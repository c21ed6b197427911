pub mod Bound
pub mod Theorems
