-- `state::state_validity::state_valid` meets its contract. Assumes nothing.
use mathlib.Core.Path.{◌∙◌, ◌≡◌, refl, sym}
use borrow.Author.Tests.{tests}
use Rattle.std.proofs.Common.{rules}
use Rattle.std.specs.List.{list_all, range_with_len}
use Rattle.std.proofs.lemmas.Iterator.{YieldsList-from_range}
use Rattle.std.proofs.lemmas.Iterator.Search.{all_from_yields_List}
use Rattle.plan.proofs.Sums.{all_entries}
use Rattle.plan.specs.Limits.{most_domains}
use Rattle.plan.specs.Sums.{all_below}
use Rattle.state.specs.StateValidity.{domain_counts_valid, state_valid}
use Rattle.state.proofs.state_validity.state_valid.Goals as goal

pub returns-then-clock_valid : goal.returns-then-clock_valid
unfolding state_valid all_below
returns-then-clock_valid c =
    let test = domain_counts_valid c.args.plan c.args.quota c.args.state in
    let domains = range_with_len 0 most_domains in
    let all : c.all.result ≡ list_all test domains =
    all_from_yields_List test _ _ c.all.result c.all.ensures.ran (YieldsList-from_range 0 most_domains most_domains refl refl) (λ domain valid after call. search (rules, tests)) in
    rw (sym c.clock_valid.ensures ∙ c.if-clock_valid.true) (all ∙ all_entries test domains most_domains refl)

pub returns-else-clock_valid : goal.returns-else-clock_valid
unfolding state_valid
returns-else-clock_valid c = rw (sym c.clock_valid.ensures ∙ c.if-clock_valid.false) c.if-clock_valid.false
