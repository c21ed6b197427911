pub mod Lines
pub mod Scripts
pub mod Canonical
pub mod Write
