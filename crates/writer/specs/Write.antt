-- Document 02, E4: what is answered to one who asks for the canonical text (`write_plan`), and the buffer
-- that is left. 11, then 12, then 17. Assumes nothing.
use Rattle.std.specs.Prelude.{ℕ, Bool, ◌&&◌, List, ◌++◌, eqb, leb, ltb, drop, length, Ok, Err, Result}
use Rattle.plan.specs.declared.Plan.{Plan}
use Rattle.plan.specs.Limits.{most_text_bytes}
use Rattle.plan.specs.Validity.{plan_valid}
use Rattle.script.specs.Limits.{scripts_length}
use Rattle.refusal.specs.Checks.{unless, when}
use Rattle.refusal.specs.declared.Refusal.TheVariants.{BufferTooShort, ImpossiblePlan, WrongLength}
use Rattle.writer.specs.Canonical.{canonical_text}
use Rattle.writer.specs.Scripts.{ops_alone}
use Rattle.refusal.specs.Verdict.{Verdict}
use Rattle.refusal.specs.declared.Refusal.{Refusal}

-- 12 refuses every other plan and scripts: the plan is valid, the store holds its ops alone, and the text is
-- no longer than one that is read. That these are the pairs that an accepted text gives is proved in crate
-- roundtrip.
unfoldable pub writable : Plan → List ℕ → Bool
writable plan scripts =
    plan_valid plan && ops_alone plan scripts && leb (length (canonical_text plan scripts)) most_text_bytes

-- its refusals: 11 for a script store of another length, 12, then 17 with the length needed where the lent
-- buffer, of `room` bytes, is shorter
unfoldable pub write_verdict : Plan → List ℕ → ℕ → Verdict
write_verdict plan scripts room =
    let needed = length (canonical_text plan scripts) in
    unless (eqb (length scripts) scripts_length) WrongLength
    (unless (writable plan scripts) ImpossiblePlan
    (when (ltb room needed) (BufferTooShort needed) (Ok tt)))

-- what is answered, and the buffer after the call
pub record WriteOutcome : Type 0 where
  pub verdict : Verdict
  pub bytes : ℕ
  pub out : List ℕ

-- these as one
abbrev pub write_with : Verdict → ℕ → List ℕ → WriteOutcome
write_with verdict bytes out = record { verdict = verdict; bytes = bytes; out = out }

-- the canonical text at the buffer's start, the number of its bytes, and past it what the buffer held; beside
-- a refusal nothing is written
abbrev pub write_from : Verdict → List ℕ → List ℕ → WriteOutcome
write_from (Ok tt) text out = write_with (Ok tt) (length text) (text ++ drop (length text) out)
write_from (Err refusal) text out = write_with (Err refusal) 0 out

-- the call, for every input
unfoldable pub write_of : Plan → List ℕ → List ℕ → WriteOutcome
write_of plan scripts out =
    write_from (write_verdict plan scripts (length out)) (canonical_text plan scripts) out

-- an answer that is either the number of bytes or the refusal, with the buffer after the call
abbrev pub write_result : Result ℕ Refusal → List ℕ → WriteOutcome
write_result (Ok bytes) out = write_with (Ok tt) bytes out
write_result (Err refusal) out = write_with (Err refusal) 0 out
