-- `latest::fitting::windows_fit` meets its contract. Assumes nothing.
use mathlib.Core.Path.{◌∙◌, ◌≡◌, refl}
use native.Mathlib.Omega.{arith}
use borrow.Author.Tests.{tests}
use Rattle.std.proofs.Common.{rules}
use Rattle.std.specs.List.{list_all, range_with_len}
use Rattle.std.proofs.lemmas.Iterator.{YieldsList-from_range}
use Rattle.std.proofs.lemmas.Iterator.Search.{all_from_yields_List}
use Rattle.plan.proofs.Sums.{all_range}
use Rattle.latest.specs.Answer.{window_fits}
use Rattle.latest.proofs.fitting.windows_fit.Goals as goal

pub returns : goal.returns
returns c =
    let test = window_fits c.args.plan c.args.domain in
    let windows = c.args.plan.windows in
    let all : c.all.result ≡ list_all test (range_with_len 0 windows) =
    all_from_yields_List test _ _ c.all.result c.all.ensures.ran (YieldsList-from_range 0 windows windows refl (omega arith)) (λ slot fits after call. search (rules, tests)) in
    all ∙ all_range test windows
