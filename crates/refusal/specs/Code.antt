-- Document 01, "The plan text", the table of refusals: the number that each refusal returns, with
-- its companion, the table's second item; and document 02's 15, 0 (E1), 16 with the colours'
-- total (E2), 17 with the length needed (E4) and 18 with the domain (E6).
-- Assumes nothing.
use Rattle.std.specs.Prelude.{ℕ, Ok, Err}
use Rattle.refusal.specs.declared.Code.{Code}
use Rattle.refusal.specs.declared.Refusal.{Refusal}
use Rattle.refusal.specs.declared.Refusal.TheVariants.{TextTooLong, BrokenShape, NumberOutOfLimits, WrongDomain, RepeatedOrMissing}
use Rattle.refusal.specs.declared.Refusal.TheVariants.{NoColour, SharesOverThousand, BadRecipient, RunTooLong, TooMany}
use Rattle.refusal.specs.declared.Refusal.TheVariants.{WrongLength, ImpossiblePlan, DamagedTable, ImpossibleState}
use Rattle.refusal.specs.declared.Refusal.TheVariants.{FrameOutOfLimits, ColoursOverFifteen, BufferTooShort}
use Rattle.refusal.specs.declared.Refusal.TheVariants.{LatestOutOfLimits}
use Rattle.refusal.specs.Verdict.{Verdict}

-- a number with its companion
abbrev pub code_with : ℕ → ℕ → Code
code_with number companion = record { number = number; companion = companion }

-- "Returned" and its companion, row by row, then what document 02 adds
abbrev pub refusal_code : Refusal → Code
refusal_code TextTooLong = code_with 1 0
refusal_code (BrokenShape offset) = code_with 2 offset
refusal_code (NumberOutOfLimits offset) = code_with 3 offset
refusal_code (WrongDomain offset) = code_with 4 offset
refusal_code (RepeatedOrMissing offset) = code_with 5 offset
refusal_code (NoColour domain) = code_with 6 domain
refusal_code (SharesOverThousand sum) = code_with 7 sum
refusal_code (BadRecipient offset) = code_with 8 offset
refusal_code RunTooLong = code_with 9 0
refusal_code (TooMany offset) = code_with 10 offset
refusal_code WrongLength = code_with 11 0
refusal_code ImpossiblePlan = code_with 12 0
refusal_code DamagedTable = code_with 13 0
refusal_code ImpossibleState = code_with 14 0
refusal_code FrameOutOfLimits = code_with 15 0
refusal_code (ColoursOverFifteen total) = code_with 16 total
refusal_code (BufferTooShort needed) = code_with 17 needed
refusal_code (LatestOutOfLimits domain) = code_with 18 domain

-- "Acceptance is 0, 0"; a refusal has its own pair
abbrev pub code_of : Verdict → Code
code_of (Ok tt) = code_with 0 0
code_of (Err refusal) = refusal_code refusal
