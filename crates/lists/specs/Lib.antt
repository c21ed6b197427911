pub mod Ascii
pub mod Part
pub mod Writing
