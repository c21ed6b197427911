-- Each answer from the tests that lead to it. Assumes nothing.
use Rattle.std.specs.Prelude.{Ok, Err}
use Prim.Native.Nat.{ℕ, ◌+◌, ◌≤◌}
use mathlib.Core.Bool.{Bool, true, false}
use mathlib.Core.List.{List}
use mathlib.Core.Path.{◌≡◌, refl}
use lib.Dec.{eqb}
use lib.ListN.{length}
use borrow.Author.Tests.{eq-eqb, ne_eqb}
use Rattle.plan.specs.declared.Plan.{Plan}
use Rattle.plan.specs.Validity.{plan_valid}
use Rattle.plan.specs.Windows.{windows_total}
use Rattle.script.specs.Limits.{scripts_length}
use Rattle.refusal.specs.Checks.{unless}
use Rattle.refusal.specs.declared.Refusal.TheVariants.{ImpossiblePlan, WrongLength}
use Rattle.bound.specs.Bound.{bound_answer_of, bound_answer_with, bound_from, bound_verdict, ops_stored, step_bound}
use Rattle.bound.specs.Theorems.{most_bound}
use Rattle.bound.proofs.Largest.{bounded}

module _ (plan : Plan) (scripts : List ℕ) where
  pub wrong_length_lem : (length scripts ≡ scripts_length → ⊥) → bound_answer_with (Err WrongLength) 0 ≡ bound_answer_of plan scripts
  unfolding bound_answer_of bound_verdict
  wrong_length_lem differs = rw (ne_eqb (length scripts) scripts_length differs) refl

  pub impossible_plan : length scripts ≡ scripts_length → plan_valid plan ≡ false → bound_answer_with (Err ImpossiblePlan) 0 ≡ bound_answer_of plan scripts
  unfolding bound_answer_of bound_verdict
  impossible_plan store impossible = rw (eq-eqb (length scripts) scripts_length store, impossible) refl

  pub accepted : length scripts ≡ scripts_length → plan_valid plan ≡ true → bound_answer_with (Ok tt) (step_bound plan scripts) ≡ bound_answer_of plan scripts
  unfolding bound_answer_of bound_verdict
  accepted store possible = rw (eq-eqb (length scripts) scripts_length store, possible) refl

  -- the two parts of the bound, and that their sum is no more than the largest bound
  module _ (ops switches : ℕ) (possible : plan_valid plan ≡ true) (ops-are : ops ≡ ops_stored scripts) (switches-are : switches ≡ windows_total plan) where
    parts_are : ops + switches ≡ step_bound plan scripts
    unfolding step_bound
    parts_are = rw (ops-are, switches-are) refl

    pub parts_most : ops + switches ≤ most_bound
    parts_most = rw parts_are (bounded plan scripts possible)

    pub parts_answered : length scripts ≡ scripts_length → bound_answer_with (Ok tt) (ops + switches) ≡ bound_answer_of plan scripts
    parts_answered store = rw parts_are (accepted store possible)

-- one impossible plan is judged as another
pub impossible_alike : (scripts : List ℕ) (one other : Plan) → plan_valid one ≡ false → plan_valid other ≡ false
    → bound_answer_of one scripts ≡ bound_answer_of other scripts
unfolding bound_answer_of bound_verdict
impossible_alike scripts one other impossible impossible' = go (eqb (length scripts) scripts_length)
  where
    go : (fits : Bool)
        → bound_from (unless fits WrongLength (unless (plan_valid one) ImpossiblePlan (Ok tt))) one scripts
        ≡ bound_from (unless fits WrongLength (unless (plan_valid other) ImpossiblePlan (Ok tt))) other scripts
    go false = refl
    go true = rw (impossible, impossible') refl
