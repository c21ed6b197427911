pub mod Fresh
pub mod Switch
pub mod Steps
pub mod View
pub mod Keeping
pub mod WindowStart
pub mod LeastPad
