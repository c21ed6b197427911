-- The laws of the latest finish: searches, the boxes of a domain, how large its numbers can be, the numbers of its script,
-- and each answer.
pub mod Lowest
pub mod Boxes
pub mod Ranges
pub mod Numbers
pub mod Answers
