pub mod Draft
pub mod DraftParts
pub mod Final
pub mod Read
pub mod Theorems
