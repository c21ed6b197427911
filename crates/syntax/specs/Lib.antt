pub mod Tokens
pub mod Keywords
pub mod Ops
pub mod Brackets
pub mod Recipients
