-- Document 01, "The plan text": checks in a row, of which the first that fails gives the refusal.
-- Assumes nothing.
use Rattle.std.specs.Prelude.{Bool, true, false, Ok, Err}
use Rattle.refusal.specs.declared.Refusal.{Refusal}
use Rattle.refusal.specs.Verdict.{Verdict}

-- a refusal unless a test holds; then the checks that follow
abbrev pub unless : Bool → Refusal → Verdict → Verdict
unless true refusal next = next
unless false refusal next = Err refusal

-- a refusal if a test holds; else the checks that follow
abbrev pub when : Bool → Refusal → Verdict → Verdict
when true refusal next = Err refusal
when false refusal next = next

-- what was found so far; then, where that is no refusal, the checks that follow
abbrev pub and_then : Verdict → Verdict → Verdict
and_then (Ok tt) next = next
and_then (Err refusal) next = Err refusal
