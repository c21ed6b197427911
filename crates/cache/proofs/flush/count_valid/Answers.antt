-- `count_valid` meets its contract. The loop's invariant: the count so far is of the numbers walked over. Assumes nothing.
use Prim.Native.Nat.{◌+◌, ◌-◌}
use native.Mathlib.Omega.{arith}
use lib.ListN.{drop, take}
use Rattle.lists.specs.Part.{part}
use Rattle.cache.specs.Lines.{is_valid}
use Rattle.cache.proofs.Counts.{count_lent, count_next, count_none}
use Rattle.cache.proofs.Ticks.{count_part_limit}
use Rattle.cache.proofs.flush.count_valid.Goals as goal

pub loop-number-init : goal.loop-number-init
unfolding part
loop-number-init c = count_none is_valid c.args.at c.args.numbers.now

pub overflow_add-valid : goal.overflow_add-valid
unfolding part
overflow_add-valid c =
    let loop = c.loop-number in
    let counted = count_next is_valid _ _ _ _ c.loop-number-test.true loop.invariant c.from-valid.ensures in
    let lent = take (c.args.at + c.args.left - c.args.at) (drop c.args.at c.args.numbers.now) in
    omega (arith, counted, count_part_limit is_valid 0 (loop.number-index + 1) lent)

pub loop-number-preserved : goal.loop-number-preserved
loop-number-preserved c =
    count_next is_valid _ _ _ _ c.loop-number-test.true c.loop-number.invariant c.from-valid.ensures

pub returns : goal.returns
returns c =
    count_lent is_valid c.args.at c.args.left _ _ c.args.numbers.now (omega (arith, c.loop-number-test.false)) c.loop-number.invariant
