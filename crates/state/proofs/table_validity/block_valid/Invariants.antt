-- `state::table_validity::block_valid` meets its contract. The loop's invariant: the sets of the
-- block passed are sound. Assumes nothing.
use mathlib.Core.Bool.{true}
use mathlib.Core.Path.{◌≡◌}
use Prim.Native.Nat.{◌+◌, ◌≤◌}
use Rattle.plan.specs.Sums.{all_below}
use Rattle.state.specs.TableValidity.{set_valid}
use Rattle.state.proofs.table_validity.block_valid.Given as goal

abbrev pub invariant-loop-set : goal.invariant-loop-set
invariant-loop-set l =
    (l.set ≤ l.count) × (all_below (λ k. set_valid l.cache (l.first + k)) l.set ≡ true)
