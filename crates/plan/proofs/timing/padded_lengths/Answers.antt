-- `plan::timing::padded_lengths` meets its contract. Assumes nothing.
use mathlib.Core.Path.{◌∙◌, refl}
use Prim.Native.Nat.{◌*◌, ◌+◌, ◌≤◌, ℕ}
use native.Mathlib.Omega.{arith}
use lib.ListN.{get_or}
use Rattle.std.proofs.Common.{rules}
use Rattle.std.specs.List.{range_with_len}
use Rattle.std.proofs.lemmas.Iterator.{YieldsList-from_map, YieldsList-from_range}
use Rattle.std.proofs.lemmas.Iterator.Consumers.{YieldsList-at, fits_by_from_yields_list, sum_by_from_yields_List}
use Rattle.plan.specs.Sums.{sum_to}
use Rattle.plan.proofs.Sums.{sum_most, sum_range}
use Rattle.plan.proofs.timing.padded_lengths.Goals as goal

pub sum-requires-clause-fits : goal.sum-requires-clause-fits
sum-requires-clause-fits c =
    let start = c in
    let count = c.args.count in
    let rule : ℕ → ℕ = λ slot. get_or start.args.plan.lengths slot 0 + start.args.plan.pad in
    let most : sum_to rule count ≤ 2_000_000 * count =
    sum_most rule 2_000_000 count (λ slot below. omega (arith, start.requires.2 slot below, start.requires)) in
    fits_by_from_yields_list rule (range_with_len 0 count) c.map.result _
    (YieldsList-from_map _ rule (YieldsList-at c.map.ensures.source (YieldsList-from_range 0 count count refl (omega arith)))
    c.map.ensures.closure (λ slot ticks after call. search rules))
    (rw (sum_range rule count) (omega (arith, start.requires)))

pub returns : goal.returns
returns c =
    let start = c in
    let count = c.args.count in
    let rule : ℕ → ℕ = λ slot. get_or start.args.plan.lengths slot 0 + start.args.plan.pad in
    sum_by_from_yields_List rule (range_with_len 0 count) c.map.result _ c.sum.ensures.ran
    (YieldsList-from_map _ rule (YieldsList-at c.map.ensures.source (YieldsList-from_range 0 count count refl (omega arith)))
    c.map.ensures.closure (λ slot ticks after call. search rules))
    ∙ sum_range rule count
