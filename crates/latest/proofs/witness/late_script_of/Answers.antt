-- `latest::witness::late_script_of` meets its contract. Assumes nothing.
use Prim.Native.Nat.{◌≤◌}
use native.Mathlib.Omega.{arith}
use Rattle.latest.proofs.Numbers.{parts_are}
use Rattle.latest.proofs.Ranges.{colour_most, domain_below, waiting}
use Rattle.latest.proofs.witness.late_script_of.Goals as goal

pub opening_ops-opening-requires : goal.opening_ops-opening-requires
opening_ops-opening-requires c = domain_below _ _ c.requires

pub lowest_colour-lowest-requires : goal.lowest_colour-lowest-requires
lowest_colour-lowest-requires c = domain_below _ _ c.requires

pub last_op-requires : goal.last_op-requires
last_op-requires c = domain_below _ _ c.requires

pub overflow_mul-result : goal.overflow_mul-result
overflow_mul-result c =
    let start = c.args in
    omega (arith, colour_most start.plan start.domain, c.lowest_colour-lowest.ensures)

pub returns : goal.returns
returns c =
    parts_are _ _ _ _ _ c.waiting_ticks-waiting.result _ _
    c.opening_ops-opening.ensures
    c.own_indices-own.ensures
    c.lowest_colour-lowest.ensures
    c.waiting_ticks-waiting.ensures
    c.last_op.ensures
    c.stored-last.ensures

pub overflow_sub-result : goal.overflow_sub-result
overflow_sub-result c = (let it : 1 ≤ c.waiting_ticks-waiting.result = rw c.waiting_ticks-waiting.ensures (waiting _ _ c.requires).least in it)

pub overflow_sub-result-2 : goal.overflow_sub-result-2
overflow_sub-result-2 c = (let it : 1 ≤ c.waiting_ticks-waiting.result = rw c.waiting_ticks-waiting.ensures (waiting _ _ c.requires).least in it)
