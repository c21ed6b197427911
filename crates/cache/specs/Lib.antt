pub mod Lines
pub mod Sets
pub mod Access
pub mod Flush
