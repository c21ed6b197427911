pub mod World
pub mod TableValidity
pub mod StateValidity
