-- The laws of the checks for 13 and 14 that their own proofs cite.
pub mod StateLaws
pub mod TableLaws
pub mod Empties
