-- `latest::searches::lowest_below` meets its contract. The loop's invariant: no index before this one passes.
-- Assumes nothing.
use mathlib.Core.Bool.{Bool}
use mathlib.Core.Path.{◌≡◌}
use Prim.Native.Nat.{◌<◌, ℕ}
use Rattle.latest.proofs.Lowest.{Searched}
use Rattle.latest.proofs.searches.lowest_below.Given as goal

abbrev pub invariant-loop-index : goal.invariant-loop-index
invariant-loop-index g l =
    (rule : ℕ → Bool)
    → ((index : ℕ) (passes : Bool) → index < l.count → goal.F-post g l.test index passes → passes ≡ rule index)
    → Searched rule l.count l.index
