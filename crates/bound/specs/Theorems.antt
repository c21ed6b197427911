-- Document 02, E3: the largest bound that there is. Assumes nothing.
use Rattle.std.specs.Prelude.{ℕ, ◌≤◌, true, List, ◌≡◌, length}
use Rattle.plan.specs.declared.Plan.{Plan}
use Rattle.plan.specs.Validity.{plan_valid}
use Rattle.script.specs.Limits.{scripts_length}
use Rattle.bound.specs.Bound.{step_bound}

-- no valid plan has a larger bound: 2,048 ops, and 32 windows 1,000 times
abbrev pub most_bound : ℕ
most_bound = 34_048

abbrev pub BoundsBounded : Type 0
BoundsBounded =
    (plan : Plan) (scripts : List ℕ) → plan_valid plan ≡ true → step_bound plan scripts ≤ most_bound

-- and some plan and store of scripts have it
pub record LargestBound : Type 0 where
  pub plan : Plan
  pub scripts : List ℕ
  pub possible : plan_valid plan ≡ true
  pub store : length scripts ≡ scripts_length
  pub largest : step_bound plan scripts ≡ most_bound
