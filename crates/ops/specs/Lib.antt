pub mod Ops
pub mod View
