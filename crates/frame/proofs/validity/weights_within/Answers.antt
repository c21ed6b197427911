-- `frame::validity::weights_within` meets its contract. Assumes nothing.
use mathlib.Core.Bool.{Bool}
use mathlib.Core.Path.{◌∙◌, ◌≡◌}
use Prim.Native.Nat.{ℕ}
use lib.Dec.{leb}
use lib.ListN.{length}
use borrow.Author.Tests.{tests}
use Rattle.std.proofs.Common.{rules}
use Rattle.std.specs.List.{list_all}
use Rattle.std.proofs.lemmas.Iterator.{YieldsList-from_slice}
use Rattle.std.proofs.lemmas.Iterator.Search.{all_from_yields_List}
use Rattle.plan.specs.Limits.{most_domains}
use Rattle.plan.proofs.Sums.{all_entries}
use Rattle.frame.specs.Frame.{weights_within}
use Rattle.frame.specs.Limits.{most_weight}
use Rattle.frame.proofs.validity.weights_within.Goals as goal

pub returns : goal.returns
unfolding weights_within
returns c =
    let eight : length c.args.weights ≡ most_domains = search rules in
    let light : ℕ → Bool = λ weight. leb weight most_weight in
    let all : c.all.result ≡ list_all light c.args.weights =
    all_from_yields_List light _ _ c.all.result c.all.ensures.ran (YieldsList-from_slice c.args.weights cc) (λ weight within after call. search (rules, tests)) in
    all ∙ all_entries light c.args.weights most_domains eight
