-- What the code says of a line that it takes up on the parts of a draft, an op line apart from the
-- others: nothing here is of the paper. What is held against a form, and what it adds, stand here
-- once more, apart from each other: the same tests as Draft's and the same plans, by `plain_taken`
-- and `plain_refused` of proofs/DraftParts. Assumes nothing.
use Rattle.std.specs.Prelude.{ℕ, cond, List, ◌≡◌, eqb, leb, Result, Ok, Err}
use Rattle.forms.specs.declared.Form.{Form}
use Rattle.forms.specs.declared.Form.TheVariants.{Blank, Pad, Run, Domain, Window, Op}
use Rattle.line.specs.declared.Line.{Line}
use Rattle.plan.specs.declared.Plan.{Plan}
use Rattle.plan.specs.Limits.{most_windows}
use Rattle.plan.specs.Parts.{with_domain, with_pad, with_run, with_window}
use Rattle.refusal.specs.declared.Refusal.TheVariants.{RepeatedOrMissing, TooMany}
use Rattle.reader.specs.declared.Draft.{Draft}
use Rattle.reader.specs.Draft.{DraftOutcome, take_line}
use Rattle.refusal.specs.declared.Refusal.{Refusal}
use Rattle.refusal.specs.Verdict.{Verdict}

-- a draft of its parts
abbrev pub draft_with : Plan → List ℕ → List ℕ → Draft
draft_with plan counts named = record { plan = plan; counts = counts; named = named }

-- an outcome of its parts
abbrev pub outcome_with : Verdict → Draft → List ℕ → DraftOutcome
outcome_with verdict draft store = record { verdict = verdict; draft = draft; store = store }

-- ---- a line other than an op

-- what is held against a form, with the pad, the run and the number of windows before it; an op is
-- judged elsewhere
abbrev pub form_verdict : Form → ℕ → ℕ → ℕ → ℕ → Verdict
form_verdict Blank bracket pad run windows = Ok tt
form_verdict (Pad ticks) bracket pad run windows =
    cond (eqb pad 0) (Ok tt) (Err (RepeatedOrMissing bracket))
form_verdict (Run times) bracket pad run windows =
    cond (eqb run 0) (Ok tt) (Err (RepeatedOrMissing bracket))
form_verdict (Domain line) bracket pad run windows = Ok tt
form_verdict (Window line) bracket pad run windows =
    cond (leb most_windows windows) (Err (TooMany bracket)) (Ok tt)
form_verdict (Op line) bracket pad run windows = Ok tt

-- a plan with what a form adds to it
abbrev pub plan_with_form : Plan → Form → Plan
plan_with_form plan Blank = plan
plan_with_form plan (Pad ticks) = with_pad plan ticks
plan_with_form plan (Run times) = with_run plan times
plan_with_form plan (Domain line) = with_domain plan line.share line.rights
plan_with_form plan (Window line) = with_window plan line.owner line.length
plan_with_form plan (Op line) = plan

-- ---- an op line

-- the verdict of a line that was passed, or not
abbrev pub passed_verdict : Result ℕ Refusal → Verdict
passed_verdict (Ok end) = Ok tt
passed_verdict (Err refusal) = Err refusal

-- the line was taken up, from the first draft and store to the next, and what was answered is its
-- end or its refusal
pub record TakenOp (passed : Result ℕ Refusal) (line : Line) (draft : Draft) (store : List ℕ)
    (next : Draft) (filled : List ℕ) : Type 0 where
  pub came : outcome_with (passed_verdict passed) next filled ≡ take_line line draft store
  pub ends : (end : ℕ) → passed ≡ Ok end → line.end ≡ end
