pub mod Checks
pub mod FreshStart
pub mod Running
pub mod Keeping
pub mod LentLog
pub mod Answers
pub mod LogQuery
pub mod Theorems
