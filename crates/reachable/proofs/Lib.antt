-- The laws of the worlds that a run reaches.
pub mod Accesses
pub mod Cells
pub mod Counts
pub mod Effects
pub mod Progress
pub mod Ending
pub mod OldBoard
pub mod Fronts
pub mod Lent
pub mod Lines
pub mod StateReached
pub mod Reached
pub mod Switches
pub mod Tables
pub mod Ways
pub mod WindowSteps
