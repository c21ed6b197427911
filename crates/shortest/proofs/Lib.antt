-- The laws of lengths.
pub mod Numbers
pub mod Runs
pub mod Tokens
pub mod Due
pub mod Ops
pub mod Recipients
pub mod Forms
pub mod Lines
pub mod Within
pub mod Store
pub mod Potential
pub mod Walk
pub mod Shortest
