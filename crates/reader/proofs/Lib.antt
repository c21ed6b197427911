pub mod Accepted
pub mod DraftParts
pub mod GoodDraft
pub mod HighBits
pub mod LastChecks
pub mod Sixteen
pub mod Walking
pub mod WholeText
