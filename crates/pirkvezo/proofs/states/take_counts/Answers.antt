-- `pirkvezo::states::take_counts` meets its contract. The loop's invariant: the places passed hold
-- the lent numbers. Assumes nothing.
use mathlib.Core.Path.{refl}
use native.Mathlib.Omega.{arith}
use lib.ListN.{length-set}
use Rattle.plan.specs.Limits.{most_domains}
use Rattle.pirkvezo.specs.Numbers.{numbers_from}
use Rattle.pirkvezo.proofs.Runs.{taken_all, taken_more}
use Rattle.pirkvezo.proofs.states.take_counts.Goals as goal

pub loop-i-init : goal.loop-i-init
unfolding numbers_from
loop-i-init c = (refl, refl)

pub loop-i-preserved : goal.loop-i-preserved
loop-i-preserved c =
    let loop = c.loop-i in
    (simp length-set loop.invariant.0, taken_more _ _ _ loop.i (omega arith) loop.invariant.1)

pub returns : goal.returns
returns c = taken_all _ _ _ c.loop-i.i most_domains c.loop-i.invariant.0 (omega arith) c.loop-i.invariant.1
