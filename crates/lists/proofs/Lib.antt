-- The laws on tables, their parts and their stores, and on tests, that other crates cite.
pub mod Agree
pub mod Parts
pub mod Stores
pub mod Tests
