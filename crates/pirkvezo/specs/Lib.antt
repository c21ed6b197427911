-- What the library's functions take, answer and leave.
pub mod Numbers
pub mod Answers
pub mod Bounding
pub mod Reading
pub mod Starting
pub mod Running
pub mod Keeping
pub mod LogQuery
pub mod Framing
pub mod Writing
pub mod Finishing
pub mod Theorems
