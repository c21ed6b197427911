-- `writer::store::ops_alone` meets its contract. Assumes nothing.
use Rattle.std.proofs.Common.{rules, tests, ℕ, Bool, ◌≡◌, refl, ◌∙◌}
use Rattle.std.specs.List.{list_all, range_with_len}
use Rattle.std.proofs.lemmas.Iterator.{YieldsList-from_range}
use Rattle.std.proofs.lemmas.Iterator.Search.{all_from_yields_List}
use Rattle.plan.proofs.Sums.{all_entries}
use Rattle.plan.specs.Limits.{most_domains}
use Rattle.plan.specs.Sums.{all_below}
use Rattle.script.specs.Limits.{most_ops}
use Rattle.writer.proofs.StoreParts.{each_entry}
use Rattle.writer.specs.Scripts.{op_or_zero, ops_alone}
use Rattle.writer.proofs.store.ops_alone.Goals as goal

pub returns : goal.returns
unfolding ops_alone
returns c =
    let args = c.args in
    let test : ℕ → Bool = λ part. all_below (op_or_zero args.plan.domains args.scripts.now part) most_ops in
    let domains = range_with_len 0 most_domains in
    let all : c.all.result ≡ list_all test domains =
    all_from_yields_List test _ _ c.all.result c.all.ensures.ran (YieldsList-from_range 0 most_domains most_domains refl refl)
    (λ domain alone after call. search (rules, tests)) in
    all ∙ all_entries test domains most_domains refl ∙ each_entry test
