-- `frame::quotas::windows_of` meets its contract. The loop's invariant: the array is filled for the domains passed.
-- Assumes nothing.
use mathlib.Core.Bool.{cond}
use mathlib.Core.List.{List}
use mathlib.Core.Path.{◌≡◌}
use Prim.Native.Nat.{◌+◌, ◌<◌, ℕ}
use lib.Dec.{ltb}
use lib.ListN.{get_or, length}
use Rattle.plan.specs.Limits.{most_domains}
use Rattle.frame.specs.Quotas.{entry_of, ahead_of}
use Rattle.frame.proofs.quotas.windows_of.Given as goal

-- the windows of a domain, from the quotas' parts and the leftover windows
abbrev windows_by : List ℕ → List ℕ → ℕ → ℕ → ℕ
windows_by wholes remainders left domain =
    entry_of wholes domain + cond (ltb (ahead_of (entry_of remainders) domain) left) 1 0

abbrev pub invariant-loop-domain : goal.invariant-loop-domain
invariant-loop-domain l =
    (length l.windows ≡ most_domains)
    × ((index : ℕ) → index < most_domains → get_or l.windows index 0 ≡ cond (ltb index l.domain) (windows_by l.quotas.wholes l.quotas.remainders l.left index) 0)
