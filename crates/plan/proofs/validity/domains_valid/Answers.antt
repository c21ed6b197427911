-- `plan::validity::domains_valid` meets its contract. Assumes nothing.
use mathlib.Core.Path.{◌∙◌, ◌≡◌, refl}
use borrow.Author.Tests.{tests}
use Rattle.std.proofs.Common.{rules}
use Rattle.std.specs.List.{list_all, range_with_len}
use Rattle.std.proofs.lemmas.Iterator.{YieldsList-from_range}
use Rattle.std.proofs.lemmas.Iterator.Search.{all_from_yields_List}
use Rattle.plan.specs.Validity.{domain_valid}
use Rattle.plan.specs.Sums.{all_below}
use Rattle.plan.specs.Limits.{most_domains}
use Rattle.plan.proofs.Sums.{all_entries}
use Rattle.plan.proofs.validity.domains_valid.Goals as goal

pub returns : goal.returns
unfolding all_below
returns c =
    let test = domain_valid c.args.plan in
    let domains = range_with_len 0 most_domains in
    let all : c.all.result ≡ list_all test domains =
    all_from_yields_List test _ _ c.all.result c.all.ensures.ran (YieldsList-from_range 0 most_domains most_domains refl refl) (λ domain valid after call. search (rules, tests)) in
    all ∙ all_entries test domains most_domains refl
