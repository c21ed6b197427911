-- `frame::quotas::quotas_of` meets its contract. The loop's invariant: both arrays are filled for the domains passed.
-- Assumes nothing.
use mathlib.Core.Bool.{cond}
use mathlib.Core.Path.{◌≡◌}
use Prim.Native.Nat.{◌<◌, ℕ}
use lib.Dec.{ltb}
use lib.ListN.{get_or, length}
use Rattle.plan.specs.Limits.{most_domains}
use Rattle.frame.specs.Quotas.{remainder_of, whole_part}
use Rattle.frame.proofs.quotas.quotas_of.Given as goal

abbrev pub invariant-loop-domain : goal.invariant-loop-domain
invariant-loop-domain l =
    (length l.wholes ≡ most_domains)
    × (length l.remainders ≡ most_domains)
    × ((index : ℕ) → index < most_domains → get_or l.wholes index 0 ≡ cond (ltb index l.domain) (whole_part l.count l.weights index) 0)
    × ((index : ℕ) → index < most_domains → get_or l.remainders index 0 ≡ cond (ltb index l.domain) (remainder_of l.count l.weights index) 0)
