-- `latest::reach::box_count` meets its contract. Assumes nothing.
use mathlib.Core.Path.{◌∙◌, refl}
use native.Mathlib.Omega.{arith}
use Rattle.std.proofs.Common.{rules}
use Rattle.std.specs.List.{range_with_len}
use Rattle.std.proofs.lemmas.Iterator.{YieldsList-from_map, YieldsList-from_range}
use Rattle.std.proofs.lemmas.Iterator.Consumers.{YieldsList-at, fits_by_from_yields_list, sum_by_from_yields_List}
use Rattle.plan.specs.Limits.{most_domains}
use Rattle.plan.proofs.Sums.{sum_range}
use Rattle.latest.specs.Reach.{box_count}
use Rattle.latest.proofs.Boxes.{boxes_with, count_most}
use Rattle.latest.proofs.reach.box_count.Goals as goal

pub sum-requires-clause-fits : goal.sum-requires-clause-fits
unfolding box_count
sum-requires-clause-fits c =
    let rule = boxes_with c.args.plan c.args.domain in
    let fits = count_most c.args.plan c.args.domain in
    fits_by_from_yields_list rule (range_with_len 0 most_domains) c.map.result _
    (YieldsList-from_map _ rule (YieldsList-at c.map.ensures.source (YieldsList-from_range 0 most_domains most_domains refl refl)) c.map.ensures.closure (λ other number after call. search rules))
    (rw (sum_range rule most_domains) (omega arith))

pub returns : goal.returns
unfolding box_count
returns c =
    let rule = boxes_with c.args.plan c.args.domain in
    sum_by_from_yields_List rule (range_with_len 0 most_domains) c.map.result _ c.sum.ensures.ran
    (YieldsList-from_map _ rule (YieldsList-at c.map.ensures.source (YieldsList-from_range 0 most_domains most_domains refl refl)) c.map.ensures.closure (λ other number after call. search rules))
    ∙ sum_range rule most_domains
