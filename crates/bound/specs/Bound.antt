-- Document 02, E3: how many steps a run from a fresh start can take at most, and what is answered to
-- one who asks (`step_bound`). A step is an op or a switch, and each kind has its own part of the
-- bound. Assumes nothing.
use Rattle.std.specs.Prelude.{ℕ, ◌+◌, List, eqb, length, Ok, Err, Result}
use Rattle.plan.specs.declared.Plan.{Plan}
use Rattle.plan.specs.Limits.{most_domains}
use Rattle.plan.specs.Sums.{sum_to}
use Rattle.plan.specs.Validity.{plan_valid}
use Rattle.plan.specs.Windows.{windows_total}
use Rattle.script.specs.Limits.{scripts_length}
use Rattle.script.specs.ScriptEnd.{stored_ops}
use Rattle.refusal.specs.Checks.{unless}
use Rattle.refusal.specs.declared.Refusal.TheVariants.{ImpossiblePlan, WrongLength}
use Rattle.refusal.specs.Verdict.{Verdict}
use Rattle.refusal.specs.declared.Refusal.{Refusal}

-- the ops: those stored in all scripts, of undeclared domains too
unfoldable pub ops_stored : List ℕ → ℕ
ops_stored scripts = sum_to (stored_ops scripts) most_domains

-- the bound: the ops, and a switch for each window of the run, which are windows × run
unfoldable pub step_bound : Plan → List ℕ → ℕ
step_bound plan scripts = ops_stored scripts + windows_total plan

-- its refusals: 11 for a script store of another length, then 12
unfoldable pub bound_verdict : Plan → List ℕ → Verdict
bound_verdict plan scripts =
    unless (eqb (length scripts) scripts_length) WrongLength
    (unless (plan_valid plan) ImpossiblePlan (Ok tt))

-- what is answered: a verdict, and the bound, which is 0 beside a refusal
pub record BoundAnswer : Type 0 where
  pub verdict : Verdict
  pub steps : ℕ

-- a verdict and a number of steps as one
abbrev pub bound_answer_with : Verdict → ℕ → BoundAnswer
bound_answer_with verdict steps = record { verdict = verdict; steps = steps }

-- the bound where nothing is refused, and 0 beside a refusal
abbrev pub bound_from : Verdict → Plan → List ℕ → BoundAnswer
bound_from (Ok tt) plan scripts = bound_answer_with (Ok tt) (step_bound plan scripts)
bound_from (Err refusal) plan scripts = bound_answer_with (Err refusal) 0

-- the answer, for every input
unfoldable pub bound_answer_of : Plan → List ℕ → BoundAnswer
bound_answer_of plan scripts = bound_from (bound_verdict plan scripts) plan scripts

-- an answer that is either the bound or the refusal
abbrev pub bound_answer : Result ℕ Refusal → BoundAnswer
bound_answer (Ok steps) = bound_answer_with (Ok tt) steps
bound_answer (Err refusal) = bound_answer_with (Err refusal) 0
