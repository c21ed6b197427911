-- `frame::quotas::leftover_of` meets its contract. Assumes nothing.
use mathlib.Core.Path.{◌∙◌, ◌≡◌, ap}
use Prim.Native.Nat.{◌<◌, ◌-◌, ℕ}
use native.Mathlib.Omega.{arith}
use lib.ListN.{length}
use Rattle.std.proofs.Common.{rules}
use Rattle.std.specs.List.{sum}
use Rattle.plan.specs.Limits.{most_domains}
use Rattle.plan.specs.Sums.{sum_to}
use Rattle.plan.proofs.Sums.{sum_entries}
use Rattle.frame.specs.Quotas.{entry_of}
use Rattle.frame.proofs.quotas.leftover_of.Goals as goal

pub sum-given-requires-clause-fits : goal.sum-given-requires-clause-fits
sum-given-requires-clause-fits c =
    let eight : length c.args.wholes ≡ most_domains = search rules in
    let entries = sum_entries c.args.wholes most_domains eight in
    let fits : sum c.args.wholes < 4_294_967_296 = omega arith in
    search (rules, fits)

-- what is given out
given : (c : goal.After-sum-given) → c.sum-given.result ≡ sum_to (entry_of c.args.wholes) most_domains
given c =
    let eight : length c.args.wholes ≡ most_domains = search rules in
    let all : c.sum-given.result ≡ sum c.args.wholes = search rules in
    all ∙ sum_entries c.args.wholes most_domains eight

pub overflow_sub-result : goal.overflow_sub-result
overflow_sub-result c = let entries = given c in omega arith

pub returns : goal.returns
returns c = ap (λ (total : ℕ). c.args.count - total) (given c)
