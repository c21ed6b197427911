-- `pirkvezo::plans::take_masks` meets its contract. The loop's invariant: the places passed hold
-- the lent numbers. Assumes nothing.
use mathlib.Core.Path.{◌≡◌}
use lib.ListN.{length, take}
use Rattle.plan.specs.Limits.{most_domains}
use Rattle.pirkvezo.specs.Numbers.{masks_offset, numbers_from}
use Rattle.pirkvezo.proofs.plans.take_masks.Given as goal

abbrev pub invariant-loop-domain : goal.invariant-loop-domain
invariant-loop-domain l = (length l.taken ≡ most_domains) × (take l.domain l.taken ≡ numbers_from l.numbers masks_offset l.domain)
