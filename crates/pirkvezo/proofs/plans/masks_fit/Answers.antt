-- `pirkvezo::plans::masks_fit` meets its contract. Assumes nothing.
use mathlib.Core.Path.{◌∙◌, ◌≡◌, refl}
use Prim.Native.Nat.{ℕ, ◌+◌}
use borrow.Author.Tests.{tests}
use lib.Dec.{leb}
use lib.ListN.{get_or}
use mathlib.Core.Bool.{Bool}
use Rattle.std.proofs.Common.{rules}
use Rattle.std.specs.List.{list_all, range_with_len}
use Rattle.std.proofs.lemmas.Iterator.{YieldsList-from_range}
use Rattle.std.proofs.lemmas.Iterator.Search.{all_from_yields_List}
use Rattle.plan.specs.Limits.{most_domains}
use Rattle.plan.proofs.Sums.{all_range}
use Rattle.pirkvezo.specs.Numbers.{masks_fit, masks_offset, most_mask}
use Rattle.pirkvezo.proofs.plans.masks_fit.Goals as goal

pub returns : goal.returns
unfolding masks_fit
returns c =
    let test : ℕ → Bool = λ domain. leb (get_or c.args.numbers.now (masks_offset + domain) 0) most_mask in
    let all : c.all.result ≡ list_all test (range_with_len 0 most_domains) =
    all_from_yields_List test _ _ c.all.result c.all.ensures.ran (YieldsList-from_range 0 most_domains most_domains refl refl) (λ domain fits after call. search (rules, tests)) in
    all ∙ all_range test most_domains
