-- `bound::ops_stored` meets its contract: no script has more than 256 ops. Assumes nothing.
use mathlib.Core.Path.{◌∙◌, refl}
use native.Mathlib.Omega.{arith}
use Rattle.std.proofs.Common.{rules}
use Rattle.std.specs.List.{range_with_len}
use Rattle.std.proofs.lemmas.Iterator.{YieldsList-from_map, YieldsList-from_range}
use Rattle.std.proofs.lemmas.Iterator.Consumers.{YieldsList-at, fits_by_from_yields_list, sum_by_from_yields_List}
use Rattle.plan.specs.Limits.{most_domains}
use Rattle.plan.proofs.Sums.{sum_range}
use Rattle.script.specs.ScriptEnd.{stored_ops}
use Rattle.bound.specs.Bound.{ops_stored}
use Rattle.bound.proofs.Largest.{ops_most}
use Rattle.bound.proofs.ops_stored.Goals as goal

pub sum-requires-clause-fits : goal.sum-requires-clause-fits
sum-requires-clause-fits c =
    let rule = stored_ops c.args.scripts.now in
    let fits = ops_most c.args.scripts.now most_domains in
    fits_by_from_yields_list rule (range_with_len 0 most_domains) c.map.result _
    (YieldsList-from_map _ rule (YieldsList-at c.map.ensures.source (YieldsList-from_range 0 most_domains most_domains refl refl)) c.map.ensures.closure (λ domain ops after call. search rules))
    (rw (sum_range rule most_domains) (omega arith))

pub returns : goal.returns
unfolding ops_stored
returns c =
    let rule = stored_ops c.args.scripts.now in
    sum_by_from_yields_List rule (range_with_len 0 most_domains) c.map.result _ c.sum.ensures.ran
    (YieldsList-from_map _ rule (YieldsList-at c.map.ensures.source (YieldsList-from_range 0 most_domains most_domains refl refl)) c.map.ensures.closure (λ domain ops after call. search rules))
    ∙ sum_range rule most_domains
