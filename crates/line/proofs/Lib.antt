pub mod GoodLine
pub mod Heads
pub mod Plain
