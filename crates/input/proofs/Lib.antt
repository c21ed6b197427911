-- The laws of reading that other crates cite.
pub mod Reading
