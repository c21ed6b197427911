-- `state::table_validity::block_valid` meets its contract. The loop's invariant: the sets of the
-- block passed are sound. Assumes nothing.
use mathlib.Core.Path.{◌∙◌, ◌≡◌, ap, refl, sym}
use Prim.Native.Nat.{◌+◌, ◌*◌}
use native.Mathlib.Omega.{arith}
use Rattle.cache.specs.Lines.{set_index, ways_per_set}
use Rattle.plan.proofs.Sums.{all_below_fails, all_below_more}
use Rattle.plan.specs.Sums.{all_below}
use Rattle.state.specs.TableValidity.{all_empty, set_valid}
use Rattle.std.proofs.Common.{rules}
use Rattle.state.proofs.Empties.{empty_block, fold_empty}
use Rattle.state.proofs.TableLaws.{lent_part}
use Rattle.state.proofs.table_validity.block_valid.Goals as goal

pub returns-then-none_held : goal.returns-then-none_held
returns-then-none_held c =
    let args = c.args in
    let seen =
    fold_empty _ _ c.iter.result _ (λ none number more f' called. search rules) c.fold-none_held.ensures.ran in
    let part = lent_part (set_index args.first) (ways_per_set * args.count) args.cache.now in
    let empty = ap all_empty (sym part ∙ sym c.iter.ensures.rest) ∙ sym seen ∙ c.if-none_held.true in
    sym (empty_block args.cache.now args.first args.count empty)

pub loop-set-init : goal.loop-set-init
unfolding all_below
loop-set-init c = (omega arith, refl)

pub returns-then-not-set_valid : goal.returns-then-not-set_valid
returns-then-not-set_valid c =
    let args = c.args in
    let fails = sym c.set_valid.ensures ∙ c.if-not-set_valid.true in
    all_below_fails (λ k. set_valid args.cache.now (args.first + k)) args.count
    c.loop-set.set c.loop-set-test.true fails

pub loop-set-preserved : goal.loop-set-preserved
loop-set-preserved c =
    let args = c.args in
    let loop = c.loop-set in
    let passes = sym c.set_valid.ensures ∙ c.if-not-set_valid.false in (
      omega (arith, c.loop-set-test),
      all_below_more (λ k. set_valid args.cache.now (args.first + k)) loop.set
          loop.invariant.1 passes,
    )

pub returns : goal.returns
returns c =
    let args = c.args in
    let ended : c.loop-set.set ≡ args.count = omega arith in
    sym c.loop-set.invariant.1 ∙ ap (all_below _) ended
