-- `latest::witness::opening_ticks` meets its contract. Assumes nothing.
use mathlib.Core.Path.{refl}
use native.Mathlib.Omega.{arith}
use Rattle.latest.specs.Script.{opening_ticks}
use Rattle.latest.proofs.Boxes.{count_most}
use Rattle.latest.proofs.Ranges.{opening_most, opening_ticks_most}
use Rattle.latest.proofs.witness.opening_ticks.Goals as goal

pub overflow_mul-result : goal.overflow_mul-result
overflow_mul-result c =
    let start = c.args in
    omega (arith, c.opening_ops-opening.ensures, opening_most start.plan start.domain)

pub returns-then-starts_run : goal.returns-then-starts_run
unfolding opening_ticks
returns-then-starts_run c = rw (← c.starts_run.ensures, c.if-starts_run.true, c.opening_ops-opening.ensures) refl

pub boxes_ticks-lines-requires : goal.boxes_ticks-lines-requires
boxes_ticks-lines-requires c = rw c.box_count.ensures (count_most _ _)

pub returns : goal.returns
unfolding opening_ticks
returns c =
    rw (← c.starts_run.ensures, c.if-starts_run.false, c.boxes_ticks-lines.ensures, c.box_count.ensures) refl

pub overflow_add-result : goal.overflow_add-result
overflow_add-result c =
    let start = c.args in
    rw (returns c) (omega (arith, opening_ticks_most start.plan start.domain))
