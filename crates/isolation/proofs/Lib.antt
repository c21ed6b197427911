-- What is proved of lists of calls.
pub mod OneRun
pub mod TwoRuns
pub mod Isolation
pub mod Examples
pub mod Texts
pub mod TextExample
pub mod Lent
pub mod Keeping
pub mod WindowStarts
