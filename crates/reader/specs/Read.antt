-- Document 01, "The plan text": reading a plan. 11, then 1; then line by line; then the checks after the
-- last line. Assumes nothing.
use Rattle.std.specs.Prelude.{ℕ, zero, suc, ◌+◌, true, false, List, eqb, ltb, length, Ok, Err, Result}
use Rattle.script.specs.Limits.{scripts_length}
use Rattle.line.specs.declared.Line.{Line}
use Rattle.line.specs.Lines.{line_at}
use Rattle.plan.specs.declared.Plan.{Plan}
use Rattle.plan.specs.Limits.{most_text_bytes}
use Rattle.plan.specs.Zeros.{no_plan}
use Rattle.refusal.specs.Checks.{and_then, unless, when}
use Rattle.refusal.specs.declared.Refusal.{Refusal}
use Rattle.refusal.specs.declared.Refusal.TheVariants.{TextTooLong, WrongLength}
use Rattle.reader.specs.declared.Draft.{Draft}
use Rattle.reader.specs.Draft.{DraftOutcome, no_draft, no_ops, outcome_of, take_line, taken}
use Rattle.reader.specs.Final.{final_verdict, plan_with_masks}
use Rattle.refusal.specs.Verdict.{Verdict}

-- the line at an offset, after the lines that gave a draft
abbrev pub draft_line : List ℕ → ℕ → Draft → Line
draft_line text at draft = line_at text draft.plan.domains draft.named at

-- the lines from an offset on, each taken up as it is read, up to the first that is refused. A text has no
-- more lines than bytes, so `lines`, its length, never runs out.
unfoldable pub walk_from : ℕ → List ℕ → ℕ → Draft → List ℕ → DraftOutcome
walk_from zero text at draft store = outcome_of (taken draft) store
walk_from (suc lines) text at draft store =
    elim (ltb at (length text)) [
      | true ↦
          let line = draft_line text at draft in
          let outcome = take_line line draft store in
          elim outcome.verdict [
            | Ok tt ↦ walk_from lines text (line.end + 1) outcome.draft outcome.store
            | Err refusal ↦ outcome
          ]
      | false ↦ outcome_of (taken draft) store
    ]

-- all lines of a text, with nothing declared before them
abbrev pub lines_of : List ℕ → DraftOutcome
lines_of text = walk_from (length text) text 0 no_draft no_ops

-- the checks in their order: 11, then 1, then those of the lines, then those after the last line
unfoldable pub read_verdict : List ℕ → List ℕ → DraftOutcome → Verdict
read_verdict text scripts lines =
    unless (eqb (length scripts) scripts_length) WrongLength
    (when (ltb most_text_bytes (length text)) TextTooLong
    (and_then lines.verdict
    (final_verdict (length text) lines.draft)))

-- what reading answers, and the script store that it leaves
pub record ReadOutcome : Type 0 where
  pub verdict : Verdict
  pub plan : Plan
  pub scripts : List ℕ

-- an accepted text gives its plan and its scripts; a refusal has a plan of zeros and leaves the store as lent
abbrev pub read_with : Verdict → DraftOutcome → List ℕ → ReadOutcome
read_with (Ok tt) lines scripts =
    record { verdict = Ok tt; plan = plan_with_masks lines.draft.plan; scripts = lines.store }
read_with (Err refusal) lines scripts =
    record { verdict = Err refusal; plan = no_plan; scripts = scripts }

-- what is answered, with the store after the call; beside a refusal there is no plan, and zeros stand for it
abbrev pub read_result : Result Plan Refusal → List ℕ → ReadOutcome
read_result (Ok plan) scripts = record { verdict = Ok tt; plan = plan; scripts = scripts }
read_result (Err refusal) scripts = record { verdict = Err refusal; plan = no_plan; scripts = scripts }

-- a text read into a script store
unfoldable pub read_of : List ℕ → List ℕ → ReadOutcome
read_of text scripts =
    let lines = lines_of text in
    read_with (read_verdict text scripts lines) lines scripts
