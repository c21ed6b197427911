-- `frame::quotas::ahead_of` meets its contract: it counts 1 for each domain ahead. Assumes nothing.
use mathlib.Core.Bool.{cond}
use mathlib.Core.Path.{◌∙◌, refl}
use Prim.Native.Nat.{ℕ}
use native.Mathlib.Omega.{arith}
use Rattle.std.proofs.Common.{rules}
use Rattle.std.specs.List.{range_with_len}
use Rattle.std.proofs.lemmas.Iterator.{YieldsList-from_map, YieldsList-from_range}
use Rattle.std.proofs.lemmas.Iterator.Consumers.{YieldsList-at, fits_by_from_yields_list, sum_by_from_yields_List}
use Rattle.plan.specs.Limits.{most_domains}
use Rattle.plan.proofs.Sums.{number_of, sum_range}
use Rattle.frame.specs.Quotas.{count_below, entry_of, is_ahead, rank}
use Rattle.frame.proofs.Counting.{count_most}
use Rattle.frame.proofs.quotas.ahead_of.Goals as goal

pub sum-requires-clause-fits : goal.sum-requires-clause-fits
unfolding count_below
sum-requires-clause-fits c =
    let rule : ℕ → ℕ = λ other. cond (is_ahead (entry_of c.args.remainders) other c.args.domain) 1 0 in
    let fits = count_most (λ other. is_ahead (entry_of c.args.remainders) other c.args.domain) most_domains in
    fits_by_from_yields_list rule (range_with_len 0 most_domains) c.map.result _
    (YieldsList-from_map _ rule (YieldsList-at c.map.ensures.source (YieldsList-from_range 0 most_domains most_domains refl refl))
    c.map.ensures.closure (λ other number after call. search (rules, number_of)))
    (rw (sum_range rule most_domains) (omega arith))

pub returns : goal.returns
unfolding rank count_below
returns c =
    let rule : ℕ → ℕ = λ other. cond (is_ahead (entry_of c.args.remainders) other c.args.domain) 1 0 in
    sum_by_from_yields_List rule (range_with_len 0 most_domains) c.map.result _ c.sum.ensures.ran
    (YieldsList-from_map _ rule (YieldsList-at c.map.ensures.source (YieldsList-from_range 0 most_domains most_domains refl refl))
    c.map.ensures.closure (λ other number after call. search (rules, number_of)))
    ∙ sum_range rule most_domains
