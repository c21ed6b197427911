pub mod OldBoard
pub mod Lent
pub mod StepCounts
