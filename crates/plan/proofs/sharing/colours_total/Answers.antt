-- `plan::sharing::colours_total` meets its contract. Assumes nothing.
use mathlib.Core.Path.{◌∙◌, refl}
use Prim.Native.Nat.{◌*◌, ◌≤◌, ℕ}
use native.Mathlib.Omega.{arith}
use lib.ListN.{get_or}
use Rattle.std.proofs.Common.{rules}
use Rattle.std.specs.List.{range_with_len}
use Rattle.std.proofs.lemmas.Iterator.{YieldsList-from_map, YieldsList-from_range}
use Rattle.std.proofs.lemmas.Iterator.Consumers.{YieldsList-at, fits_by_from_yields_list, sum_by_from_yields_List}
use Rattle.plan.specs.Colours.{colours_of, first_colour}
use Rattle.plan.specs.Sums.{sum_to}
use Rattle.plan.specs.Limits.{domain_colours}
use Rattle.plan.proofs.Shares.{colours_most}
use Rattle.plan.proofs.Sums.{sum_most, sum_range}
use Rattle.plan.proofs.sharing.colours_total.Goals as goal

pub sum-requires-clause-fits : goal.sum-requires-clause-fits
sum-requires-clause-fits c =
    let start = c in
    let domains = c.args.plan.domains in
    let rule : ℕ → ℕ = λ domain. colours_of (get_or c.args.plan.shares domain 0) in
    let most : sum_to rule domains ≤ domain_colours * domains =
    sum_most rule domain_colours domains (λ domain below. colours_most _ (start.requires.1 domain (omega (arith, below, start.requires.0)))) in
    fits_by_from_yields_list rule (range_with_len 0 domains) c.map.result _
    (YieldsList-from_map _ rule (YieldsList-at c.map.ensures.source (YieldsList-from_range 0 domains domains refl (omega arith)))
    c.map.ensures.closure (λ domain colours after call. search rules))
    (rw (sum_range rule domains) (omega arith))

pub returns : goal.returns
unfolding first_colour
returns c =
    let start = c in
    let domains = c.args.plan.domains in
    let rule : ℕ → ℕ = λ domain. colours_of (get_or c.args.plan.shares domain 0) in
    sum_by_from_yields_List rule (range_with_len 0 domains) c.map.result _ c.sum.ensures.ran
    (YieldsList-from_map _ rule (YieldsList-at c.map.ensures.source (YieldsList-from_range 0 domains domains refl (omega arith)))
    c.map.ensures.closure (λ domain colours after call. search rules))
    ∙ sum_range rule domains
