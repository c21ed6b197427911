-- `frame::quotas::quotas_of` meets its contract. The loop's invariant: both arrays are filled for the domains passed.
-- Assumes nothing.
use native.Mathlib.Nat.{mul-le-mul}
use native.Mathlib.Omega.{arith}
use lib.ListN.{length-set}
use Rattle.plan.proofs.Sums.{filled_more}
use Rattle.frame.proofs.Shares.{remainder_with, whole_with}
use Rattle.frame.proofs.Taken.{taken, weight_within}
use Rattle.frame.proofs.quotas.quotas_of.Goals as goal

pub total_weight-total-requires : goal.total_weight-total-requires
total_weight-total-requires c = (taken _ _ c.requires).within

pub overflow_mul-parts : goal.overflow_mul-parts
overflow_mul-parts c =
    let start = c in
    let facts = taken _ _ start.requires in
    let light = weight_within _ c.loop-domain.domain facts.within (omega arith) in
    omega (arith, mul-le-mul facts.most light)

pub nonzero_div-wholes : goal.nonzero_div-wholes
nonzero_div-wholes c = rw c.total_weight-total.ensures (taken _ _ c.requires).total

pub loop-domain-preserved : goal.loop-domain-preserved
loop-domain-preserved c =
    let loop = c.loop-domain in
    let start = c in
    let total = c.total_weight-total.ensures in (
      simp length-set loop.invariant.0,
      simp length-set loop.invariant.1,
      rw (whole_with start.args.count start.args.weights loop.domain _ total)
          (filled_more _ loop.wholes loop.domain loop.invariant.0 (omega arith) loop.invariant.2),
      rw (remainder_with start.args.count start.args.weights loop.domain _ total)
          (filled_more _ loop.remainders loop.domain loop.invariant.1 (omega arith) loop.invariant.3),
    )

pub nonzero_rem-remainders : goal.nonzero_rem-remainders
nonzero_rem-remainders c = rw c.total_weight-total.ensures (taken _ _ c.requires).total
