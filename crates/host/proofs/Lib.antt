-- What is proved of lists of a host's calls.
pub mod Calls
pub mod Lists
pub mod Shown
pub mod Texts
pub mod Isolation
pub mod StepBounds
pub mod WrittenBack
pub mod Latest
pub mod Examples
pub mod Keeping
