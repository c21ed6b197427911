-- `pirkvezo::plans::take_masks` meets its contract. The loop's invariant: the places passed hold
-- the lent numbers. Assumes nothing.
use mathlib.Core.Path.{refl}
use Prim.Native.Nat.{◌+◌, ◌≤◌}
use native.Mathlib.Omega.{arith}
use lib.ListN.{get_or, length-set}
use borrow.Author.Tests.{leb-true}
use Rattle.plan.proofs.Sums.{all_below_lem}
use Rattle.plan.specs.Limits.{most_domains}
use Rattle.pirkvezo.specs.Numbers.{masks_fit, masks_offset, most_mask, numbers_from}
use Rattle.pirkvezo.proofs.Runs.{taken_all, taken_more}
use Rattle.pirkvezo.proofs.plans.take_masks.Goals as goal

pub loop-domain-init : goal.loop-domain-init
unfolding numbers_from
loop-domain-init c = (refl, refl)

pub overflow_cast-taken : goal.overflow_cast-taken
unfolding masks_fit
overflow_cast-taken c =
    let domain = c.loop-domain.domain in
    let numbers = c.args.numbers.now in
    let fits : get_or numbers (masks_offset + domain) 0 ≤ most_mask = leb-true _ _ (all_below_lem _ most_domains domain c.requires.1 (omega arith)) in
    record { fits = omega arith }

pub loop-domain-preserved : goal.loop-domain-preserved
loop-domain-preserved c =
    let loop = c.loop-domain in
    (simp length-set loop.invariant.0, taken_more _ _ _ loop.domain (omega arith) loop.invariant.1)

pub returns : goal.returns
returns c = taken_all _ _ _ c.loop-domain.domain most_domains c.loop-domain.invariant.0 (omega arith) c.loop-domain.invariant.1
