-- `move_to_front` meets its contract. The loop's invariant: the ways passed lack the entry and have moved on by one,
-- and the last of them is carried. Assumes nothing.
use Prim.Native.Nat.{◌≤◌}
use mathlib.Core.Path.{◌≡◌}
use mathlib.Core.Bool.{false}
use mathlib.Core.List.{◌∷◌}
use lib.ListN.{length, get_or, take}
use Rattle.cache.specs.Sets.{has}
use Rattle.cache.proofs.Ways.{shifted}
use Rattle.cache.proofs.sets.move_to_front.Given as goal

abbrev pub invariant-loop-way : goal.invariant-loop-way
invariant-loop-way l =
    (l.way-index ≤ length l.initial.set)
    × (l.set ≡ shifted l.entry l.way-index l.initial.set)
    × (l.carry ≡ get_or (l.entry ∷ l.initial.set) l.way-index 0)
    × (has l.entry (take l.way-index l.initial.set) ≡ false)
