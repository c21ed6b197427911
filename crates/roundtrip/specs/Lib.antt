-- What it is for a text to give a plan, what writing and reading are to each other, and an example.
pub mod Accepted
pub mod Theorems
pub mod Example
