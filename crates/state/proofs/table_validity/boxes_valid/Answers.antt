-- `state::table_validity::boxes_valid` meets its contract. Assumes nothing.
use mathlib.Core.Path.{◌∙◌, ◌≡◌, ap, refl, sym}
use borrow.Author.Tests.{tests}
use Rattle.std.proofs.Common.{rules}
use Rattle.std.specs.List.{list_all, range_with_len}
use Rattle.std.proofs.lemmas.Iterator.{YieldsList-from_range}
use Rattle.std.proofs.lemmas.Iterator.Search.{all_from_yields_List}
use Rattle.ops.specs.Ops.{boxes_length}
use Rattle.plan.proofs.Sums.{all_entries}
use Rattle.plan.specs.Sums.{all_below}
use Rattle.state.specs.TableValidity.{all_empty, box_valid}
use Rattle.state.proofs.Empties.{empty_boxes_lem, fold_empty}
use Rattle.state.proofs.table_validity.boxes_valid.Goals as goal

pub returns-then-no_word : goal.returns-then-no_word
returns-then-no_word c =
    let seen =
    fold_empty _ _ c.iter.result _ (λ none number more f' called. search rules) c.fold-no_word.ensures.ran in
    let empty = ap all_empty (sym c.iter.ensures.rest) ∙ sym seen ∙ c.if-no_word.true in
    λ plan rights. c.if-no_word.true ∙ sym (empty_boxes_lem plan _ boxes_length empty)

pub returns-else-no_word : goal.returns-else-no_word
unfolding all_below
returns-else-no_word c =
    λ plan rights.
    let test = box_valid plan c.args.boxes.now in
    let indices = range_with_len 0 boxes_length in
    let all : c.all.result ≡ list_all test indices =
    all_from_yields_List test _ _ c.all.result c.all.ensures.ran (YieldsList-from_range 0 boxes_length boxes_length refl refl)
    (λ index valid after call. search (rules, tests, rights)) in
    all ∙ all_entries test indices boxes_length refl
