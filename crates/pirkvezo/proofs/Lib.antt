-- The laws of the library: lent numbers, answers, plans that are judged alike, and what each call leaves.
pub mod Runs
pub mod Whole
pub mod Written
pub mod Answered
pub mod LogQueries
pub mod Judged
pub mod Calls
pub mod Bounds
pub mod Frames
pub mod Writes
pub mod Finishes
pub mod Kept
pub mod KeptNumbers
pub mod ReadBack
pub mod StateBack
