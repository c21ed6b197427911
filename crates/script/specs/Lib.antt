pub mod Fetch
pub mod Limits
pub mod ScriptEnd
pub mod Stored
pub mod Theorems
