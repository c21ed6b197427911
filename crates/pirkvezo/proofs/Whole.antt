-- Lent numbers and what they stand for: one undoes the other. Assumes nothing.
use mathlib.Core.Path.{◌≡◌, refl, sym, ap, ◌∙◌}
use mathlib.Core.List.{List, ◌∷◌}
use Prim.Native.Nat.{ℕ, zero, suc, ◌+◌, ◌-◌, ◌≤◌}
use native.Mathlib.Omega.{arith}
use lib.ListN.{get_or, length}
use lib.Seq.{take_all}
use Rattle.lists.specs.Part.{part}
use Rattle.lists.proofs.Parts.{part_next}
use Rattle.plan.specs.declared.Plan.{Plan}
use Rattle.state.specs.declared.State.{State}
use Rattle.plan.specs.Limits.{most_domains, most_windows}
use Rattle.pirkvezo.specs.Numbers.{numbers_from, plan_numbers, plan_of, state_length, state_numbers, state_of}

-- a run within a list is a part of it
pub run_part :
    (list : List ℕ) (first count : ℕ)
    → first + count ≤ length list
    → numbers_from list first count ≡ part first count list
unfolding numbers_from part
run_part list first zero fits = refl
run_part list first (suc count) fits =
    let fewer : suc count - 1 ≡ count = omega arith in
    ap (λ (rest : List ℕ). get_or list first 0 ∷ rest) (run_part list (first + 1) count (omega arith))
    ∙ sym (part_next first (suc count) list (omega arith) (omega arith) ∙ ap (λ (n : ℕ). get_or list first 0 ∷ part (first + 1) n list) fewer)

-- all the numbers of a list are the list
pub run_all : (list : List ℕ) (count : ℕ) → length list ≡ count → numbers_from list 0 count ≡ list
unfolding part
run_all list count long = run_part list 0 count (omega arith) ∙ take_all count list (omega arith)

-- numbers of a state's length come back as they were lent
pub state_kept : (numbers : List ℕ) → length numbers ≡ state_length → state_numbers (state_of numbers) ≡ numbers
unfolding state_numbers state_of numbers_from
state_kept numbers long = run_all numbers state_length long

-- the arrays of a state have their lengths
pub record StateLengths (state : State) : Type 0 where
  pub positions : length state.positions ≡ most_domains
  pub records : length state.records ≡ most_domains

-- such a state comes back from its numbers
pub state_again : (state : State) → StateLengths state → state_of (state_numbers state) ≡ state
unfolding state_numbers state_of numbers_from
state_again state long =
    rw (run_all state.positions most_domains long.positions, run_all state.records most_domains long.records) refl

-- the arrays of a plan have their lengths
pub record PlanLengths (plan : Plan) : Type 0 where
  pub shares : length plan.shares ≡ most_domains
  pub rights : length plan.rights ≡ most_domains
  pub owners : length plan.owners ≡ most_windows
  pub lengths : length plan.lengths ≡ most_windows
  pub masks : length plan.masks ≡ most_domains

-- such a plan comes back from its numbers
pub plan_again : (plan : Plan) → PlanLengths plan → plan_of (plan_numbers plan) ≡ plan
unfolding plan_numbers plan_of numbers_from
plan_again plan long =
    rw (
      run_all plan.shares most_domains long.shares,
      run_all plan.rights most_domains long.rights,
      run_all plan.owners most_windows long.owners,
      run_all plan.lengths most_windows long.lengths,
      run_all plan.masks most_domains long.masks,
    ) refl
