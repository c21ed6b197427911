-- `state::table_validity::l1_valid` meets its contract. Assumes nothing.
use mathlib.Core.Path.{◌∙◌, ◌≡◌, refl}
use borrow.Author.Tests.{tests}
use Rattle.std.proofs.Common.{rules}
use Rattle.std.specs.List.{list_all, range_with_len}
use Rattle.std.proofs.lemmas.Iterator.{YieldsList-from_range}
use Rattle.std.proofs.lemmas.Iterator.Search.{all_from_yields_List}
use Rattle.cache.specs.Lines.{l1_length}
use Rattle.plan.proofs.Sums.{all_entries}
use Rattle.plan.specs.Sums.{all_below}
use Rattle.state.specs.TableValidity.{l1_entry_valid}
use Rattle.state.proofs.table_validity.l1_valid.Goals as goal

pub returns : goal.returns
unfolding all_below
returns c =
    λ plan state ended mask.
    let test = l1_entry_valid plan state c.args.cache.now in
    let indices = range_with_len 0 l1_length in
    let all : c.all.result ≡ list_all test indices =
    all_from_yields_List test _ _ c.all.result c.all.ensures.ran (YieldsList-from_range 0 l1_length l1_length refl refl)
    (λ index valid after call. search (rules, tests, ended, mask)) in
    all ∙ all_entries test indices l1_length refl
