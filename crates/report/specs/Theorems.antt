-- Document 01, "Settled numbers": what is proved of the program *planrun* for every text. Assumes
-- nothing.
use Rattle.std.specs.Prelude.{ℕ, ◌≤◌, List, ◌≡◌, length, Ok}
use Rattle.plan.specs.declared.Plan.{Plan}
use Rattle.reader.specs.Draft.{no_ops}
use Rattle.reader.specs.Read.{read_of}
use Rattle.engine.specs.declared.Ending.TheVariants.{Ended}
use Rattle.report.specs.Limits.{most_printed}
use Rattle.report.specs.Planrun.{planrun_of, planrun_run}
use Rattle.lists.specs.Writing.{Wrote}

-- the program's run of a plan comes to its end: it is not refused, and it answers *ended*
pub record RunsToTheEnd (plan : Plan) (scripts : List ℕ) : Type 0 where
  pub accepted : (planrun_run plan scripts).verdict ≡ Ok tt
  pub ended : (planrun_run plan scripts).ending ≡ Ended

-- it runs every accepted plan to *ended*. Proved in proofs/Ending.antt.
abbrev pub PlanrunEnds : Type 0
PlanrunEnds =
    (text : List ℕ)
    → (read_of text no_ops).verdict ≡ Ok tt
    → RunsToTheEnd (read_of text no_ops).plan (read_of text no_ops).scripts

-- all that it prints for any text has room in its buffer. Proved in proofs/Length.antt.
abbrev pub PlanrunFits : Type 0
PlanrunFits = (text : List ℕ) → length (planrun_of text) ≤ most_printed

-- its lines for a text, written to the start of a buffer: the contract of `plan_lines`
abbrev pub PlanrunWrote : List ℕ → List ℕ → List ℕ → ℕ → Type 0
PlanrunWrote text buffer after count = Wrote buffer 0 (planrun_of text) after count
