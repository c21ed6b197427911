-- `plan::sharing::shares_total` meets its contract. Assumes nothing.
use mathlib.Core.Path.{◌∙◌, ◌≡◌}
use Prim.Native.Nat.{◌<◌, ◌≤◌}
use native.Mathlib.Omega.{arith}
use lib.ListN.{length, take}
use Rattle.std.proofs.Common.{rules}
use Rattle.std.specs.List.{sum}
use Rattle.plan.specs.declared.Plan.{Plan}
use Rattle.plan.specs.Colours.{share_of, shares_total}
use Rattle.plan.specs.Limits.{most_domains, most_share}
use Rattle.plan.specs.Sums.{sum_to}
use Rattle.plan.proofs.Sums.{sum_front, sum_most}
use Rattle.plan.proofs.sharing.shares_total.Goals as goal

-- the sum of the declared domains' shares, domain by domain
declared : (plan : Plan) → length plan.shares ≡ most_domains → plan.domains ≤ most_domains → sum (take plan.domains plan.shares) ≡ sum_to (share_of plan) plan.domains
declared plan eight within = sum_front (λ share. share) plan.shares plan.domains (omega arith)

pub sum-requires-clause-fits : goal.sum-requires-clause-fits
sum-requires-clause-fits c =
    let plan = c.args.plan in
    let start = c in
    let eight : length plan.shares ≡ most_domains = search rules in
    let most = sum_most (share_of plan) most_share plan.domains (λ domain below. start.requires.1 domain (omega arith)) in
    let fits : sum (take plan.domains plan.shares) < 4_294_967_296 = rw (declared plan eight c.requires.0) (omega arith) in
    search (rules, fits)

pub returns : goal.returns
unfolding shares_total
returns c =
    let plan = c.args.plan in
    let eight : length plan.shares ≡ most_domains = search rules in
    let all : c.sum.result ≡ sum (take plan.domains plan.shares) = search rules in
    all ∙ declared plan eight c.requires.0
