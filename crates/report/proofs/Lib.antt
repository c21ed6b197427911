-- The laws on the printed lines.
pub mod Ending
pub mod Length
pub mod LineLengths
pub mod Planned
