-- `state::table_validity::sets_valid` meets its contract. The loop's invariant: whole blocks are
-- passed, and their sets are sound. Assumes nothing.
use mathlib.Core.Path.{◌∙◌, ◌≡◌, ap, refl, sym}
use Prim.Native.Nat.{ℕ}
use native.Mathlib.Omega.{arith}
use Rattle.cache.specs.Lines.{set_count}
use Rattle.plan.proofs.Sums.{all_below_block, all_below_block_fails}
use Rattle.plan.specs.Sums.{all_below}
use Rattle.state.proofs.table_validity.sets_valid.Goals as goal

-- as many sets as the code looks at together
abbrev sets_per_block : ℕ
sets_per_block = 8

pub loop-first-init : goal.loop-first-init
unfolding all_below
loop-first-init c = (omega arith, refl, refl)

pub returns-then-not-block_valid : goal.returns-then-not-block_valid
returns-then-not-block_valid c =
    let fails = sym c.block_valid.ensures ∙ c.if-not-block_valid.true in
    let first = c.loop-first.first in
    all_below_block_fails _ set_count first sets_per_block (omega arith) fails

pub loop-first-preserved : goal.loop-first-preserved
loop-first-preserved c =
    let loop = c.loop-first in
    let passes = sym c.block_valid.ensures ∙ c.if-not-block_valid.false in
    (omega arith, omega arith, all_below_block _ loop.first sets_per_block loop.invariant.2 passes)

pub returns : goal.returns
returns c =
    let ended : c.loop-first.first ≡ set_count = omega arith in
    sym c.loop-first.invariant.2 ∙ ap (all_below _) ended
