-- `frame::quotas::total_weight` meets its contract. Assumes nothing.
use mathlib.Core.Path.{◌∙◌, ◌≡◌}
use Prim.Native.Nat.{◌<◌}
use native.Mathlib.Omega.{arith}
use lib.ListN.{length}
use Rattle.std.proofs.Common.{rules}
use Rattle.std.specs.List.{sum}
use Rattle.plan.specs.Limits.{most_domains}
use Rattle.plan.proofs.Sums.{sum_entries, sum_most}
use Rattle.frame.specs.Limits.{most_weight}
use Rattle.frame.specs.Quotas.{total_weight}
use Rattle.frame.proofs.Taken.{weight_within}
use Rattle.frame.proofs.quotas.total_weight.Goals as goal

pub sum-requires-clause-fits : goal.sum-requires-clause-fits
sum-requires-clause-fits c =
    let eight : length c.args.weights ≡ most_domains = search rules in
    let start = c in
    let most = sum_most _ most_weight most_domains (λ index below. weight_within _ index start.requires below) in
    let fits : sum c.args.weights < 4_294_967_296 = rw (sum_entries c.args.weights most_domains eight) (omega arith) in
    search (rules, fits)

pub returns : goal.returns
unfolding total_weight
returns c =
    let eight : length c.args.weights ≡ most_domains = search rules in
    let all : c.sum.result ≡ sum c.args.weights = search rules in
    all ∙ sum_entries c.args.weights most_domains eight
