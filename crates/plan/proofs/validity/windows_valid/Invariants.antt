-- `plan::validity::windows_valid` meets its contract. The loop's invariant: what was found so far is the test over the indices passed.
-- Assumes nothing.
use mathlib.Core.Path.{◌≡◌}
use Rattle.plan.specs.Validity.{window_valid}
use Rattle.plan.specs.Sums.{all_below}
use Rattle.plan.proofs.validity.windows_valid.Given as goal

abbrev pub invariant-loop-slot : goal.invariant-loop-slot
invariant-loop-slot l = l.valid ≡ all_below (window_valid l.plan) l.slot
