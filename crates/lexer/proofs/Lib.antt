-- The laws on the tokens of a text, and on its numbers, that proofs here and in other crates cite.
pub mod Decimals
pub mod DigitsMade
pub mod LettersAndDigits
pub mod Lookaheads
pub mod OtherKind
pub mod Reached
pub mod Scanned
pub mod Scanning
pub mod Spelled
pub mod Values
