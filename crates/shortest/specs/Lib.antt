-- How long a line is at least by what it says, and that no text is shorter than the canonical one.
pub mod Spelled
pub mod Theorems
