-- `state::table_validity::sets_valid` meets its contract. The loop's invariant: whole blocks are
-- passed, and their sets are sound. Assumes nothing.
use mathlib.Core.Bool.{true}
use mathlib.Core.Path.{◌≡◌}
use Prim.Native.Nat.{ℕ, ◌-◌, ◌%◌, ◌≤◌}
use Rattle.cache.specs.Lines.{set_count}
use Rattle.plan.specs.Sums.{all_below}
use Rattle.state.specs.TableValidity.{set_valid}
use Rattle.state.proofs.table_validity.sets_valid.Given as goal

-- as many sets as the code looks at together
abbrev sets_per_block : ℕ
sets_per_block = 8

abbrev pub invariant-loop-first : goal.invariant-loop-first
invariant-loop-first l =
    (l.first ≤ set_count) × (l.first % sets_per_block ≡ 0) × (all_below (set_valid l.cache) l.first ≡ true)

abbrev pub decreases-loop-first : goal.decreases-loop-first
decreases-loop-first l = set_count - l.first
