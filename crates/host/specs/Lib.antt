pub mod Calls
pub mod Statement
pub mod StepBounds
pub mod WrittenBack
pub mod Latest
pub mod Keeping
