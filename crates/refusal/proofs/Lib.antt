pub mod Passed
pub mod Numbers
pub mod Told
