-- `pirkvezo::states::take_counts` meets its contract. The loop's invariant: the places passed hold
-- the lent numbers. Assumes nothing.
use mathlib.Core.Path.{◌≡◌}
use lib.ListN.{length, take}
use Rattle.plan.specs.Limits.{most_domains}
use Rattle.pirkvezo.specs.Numbers.{numbers_from}
use Rattle.pirkvezo.proofs.states.take_counts.Given as goal

abbrev pub invariant-loop-i : goal.invariant-loop-i
invariant-loop-i l = (length l.taken ≡ most_domains) × (take l.i l.taken ≡ numbers_from l.numbers l.first l.i)
