pub mod Limits
pub mod Bytes
pub mod Scan
pub mod Tokens
pub mod Lookaheads
pub mod Decimal
