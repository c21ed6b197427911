-- `plan::sharing::masks_of` meets its contract. Assumes nothing.
use mathlib.Core.Bool.{cond}
use mathlib.Core.List.{List}
use mathlib.Core.Path.{◌≡◌}
use Prim.Native.Nat.{◌<◌, ℕ}
use lib.Dec.{ltb}
use lib.ListN.{get_or, length}
use Rattle.plan.specs.Colours.{colours_of, mask_from}
use Rattle.plan.specs.Sums.{sum_to}
use Rattle.plan.specs.Limits.{most_domains}
use Rattle.plan.proofs.sharing.masks_of.Given as goal

-- the colours of a domain, from the shares alone
abbrev pub colours_by : List ℕ → ℕ → ℕ
colours_by shares domain = colours_of (get_or shares domain 0)

-- and its mask
abbrev pub mask_by : List ℕ → ℕ → ℕ
mask_by shares domain = mask_from (sum_to (colours_by shares) domain) (colours_by shares domain)

abbrev pub invariant-loop-i : goal.invariant-loop-i
invariant-loop-i l =
    (l.first ≡ sum_to (colours_by l.shares) l.i)
    × (length l.masks ≡ most_domains)
    × ((index : ℕ) → index < most_domains → get_or l.masks index 0 ≡ cond (ltb index l.i) (mask_by l.shares index) 0)
