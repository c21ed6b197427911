pub mod Sums
pub mod Shares
pub mod Bits
pub mod MaskLists
pub mod ValidPlans
pub mod Masks
pub mod Windows
pub mod LeastPad
