-- How many ops a window held: none before its start, one more with each step while it lasts, no more after its switch.
-- Assumes nothing.
use Prim.Native.Nat.{ℕ, zero, suc, ◌+◌, ◌-◌, ◌≤◌, ◌<◌}
use mathlib.Core.Bool.{Bool, true, false, cond, ◌&&◌}
use mathlib.Core.Path.{◌≡◌, refl, sym, ap, ◌∙◌}
use native.Mathlib.Nat.{add-sub_of_le, add-suc, add-zero}
use native.Mathlib.Numerals.{add-one}
use native.Mathlib.Omega.{arith}
use borrow.Author.Tests.{eq-eqb, le-ltb, lt-ltb, ne_eqb}
use lib.Dec.{eqb, ltb}
use Rattle.plan.specs.Validity.{plan_valid}
use Rattle.plan.specs.Windows.{windows_total}
use Rattle.isolation.specs.Points.{FreshRun, Starts, ops_of, windows_after}
use Rattle.isolation.proofs.TwoRuns.Progress.{lasts, no_fewer}

-- what one step adds
not_begun : (room begun still : Bool) → begun ≡ false → ◌≡◌ {A = ℕ} (cond (room && begun && still) 1 0) 0
not_begun true begun still e = rw e
not_begun false begun still e = refl

not_still : (room begun still : Bool) → still ≡ false → ◌≡◌ {A = ℕ} (cond (room && begun && still) 1 0) 0
not_still true true still e = rw e
not_still true false still e = refl
not_still false begun still e = refl

not_room : (room begun still : Bool) → room ≡ false → ◌≡◌ {A = ℕ} (cond (room && begun && still) 1 0) 0
not_room room begun still e = rw e

all_three : (room begun still : Bool) → room ≡ true → begun ≡ true → still ≡ true
    → ◌≡◌ {A = ℕ} (cond (room && begun && still) 1 0) 1
all_three room begun still e f g = rw (e, f, g)

module _ (run : FreshRun) (possible : plan_valid run.plan ≡ true) (window : ℕ) where
  module _ (count : ℕ) where
    pub before_or_after : (windows_after run count ≡ window → ⊥) → ops_of run window (suc count) ≡ ops_of run window count
    unfolding ops_of
    before_or_after other =
        ap (λ (n : ℕ). ops_of run window count + n)
        (not_begun (ltb window (windows_total run.plan)) (eqb (windows_after run count) window) (eqb (windows_after run (suc count)) window)
        (ne_eqb (windows_after run count) window other))
        ∙ add-zero (ops_of run window count)

    pub past_the_last : windows_total run.plan ≤ window → ops_of run window (suc count) ≡ ops_of run window count
    unfolding ops_of
    past_the_last over =
        ap (λ (n : ℕ). ops_of run window count + n)
        (not_room (ltb window (windows_total run.plan)) (eqb (windows_after run count) window) (eqb (windows_after run (suc count)) window)
        (le-ltb window (windows_total run.plan) over))
        ∙ add-zero (ops_of run window count)

    pub at_its_switch : (windows_after run (suc count) ≡ window → ⊥)
        → ops_of run window (suc count) ≡ ops_of run window count
    unfolding ops_of
    at_its_switch other =
        ap (λ (n : ℕ). ops_of run window count + n)
        (not_still (ltb window (windows_total run.plan)) (eqb (windows_after run count) window) (eqb (windows_after run (suc count)) window)
        (ne_eqb (windows_after run (suc count)) window other))
        ∙ add-zero (ops_of run window count)

    pub within_it : window < windows_total run.plan → windows_after run count ≡ window
        → windows_after run (suc count) ≡ window
        → ops_of run window (suc count) ≡ suc (ops_of run window count)
    unfolding ops_of
    within_it in_run here there =
        ap (λ (n : ℕ). ops_of run window count + n)
        (all_three (ltb window (windows_total run.plan)) (eqb (windows_after run count) window) (eqb (windows_after run (suc count)) window)
        (lt-ltb window (windows_total run.plan) in_run) (eq-eqb (windows_after run count) window here)
        (eq-eqb (windows_after run (suc count)) window there))
        ∙ add-one (ops_of run window count)

  pub none_so_far : (count : ℕ) → ((earlier : ℕ) → earlier < count → windows_after run earlier < window)
      → ops_of run window count ≡ 0
  unfolding ops_of
  none_so_far zero early = refl
  none_so_far (suc count) early =
      before_or_after count (λ e. omega (arith, early count (omega arith)))
      ∙ none_so_far count (λ earlier h. early earlier (omega arith))

  -- while the window lasts, each step since its start was an op
  pub ops_so_far_lem : (start : ℕ) → Starts run window start → window < windows_total run.plan → (count : ℕ)
      → windows_after run (start + count) ≡ window → ops_of run window (start + count) ≡ count
  ops_so_far_lem start s in_run zero here = rw add-zero (none_so_far start s.first)
  ops_so_far_lem start s in_run (suc count) here =
      let before = lasts run possible window start count s.reached here in
      rw add-suc (within_it (start + count) in_run before (rw add-suc at here) ∙ ap suc (ops_so_far_lem start s in_run count before))

  -- after its switch there are no more
  no_more : (count more : ℕ) → window < windows_after run count
      → ops_of run window (count + more) ≡ ops_of run window count
  no_more count zero past = rw add-zero
  no_more count (suc more) past =
      rw add-suc (before_or_after (count + more) (λ e. omega (arith, no_fewer run possible count (count + more) (omega arith))) ∙ no_more count more past)

  -- a completed window
  pub ops_in_all : (start : ℕ) → Starts run window start → window < windows_total run.plan → (last count : ℕ)
      → windows_after run (start + last) ≡ window → windows_after run (suc (start + last)) ≡ suc window
      → suc (start + last) ≤ count → ops_of run window count ≡ last
  ops_in_all start s in_run last count here past later =
      ap (ops_of run window) (sym (add-sub_of_le later))
      ∙ no_more (suc (start + last)) (count - suc (start + last)) (omega arith)
      ∙ at_its_switch (start + last) (λ e. omega arith)
      ∙ ops_so_far_lem start s in_run last here
