-- `latest::searches::lowest_below` meets its contract. Assumes nothing.
use mathlib.Core.Path.{◌∙◌, ◌≡◌, sym}
use native.Mathlib.Omega.{arith}
use Rattle.latest.proofs.Lowest.{lowest_end, lowest_here, lowest_next}
use Rattle.latest.proofs.searches.lowest_below.Goals as goal

pub returns-then-test : goal.returns-then-test
returns-then-test g c rule means =
    let loop = c.loop-index in
    lowest_here rule _ loop.index (loop.invariant rule means) c.loop-index-test.true
    (sym (means _ _ c.loop-index-test.true c.test.ensures) ∙ c.if-test.true)

pub loop-index-preserved : goal.loop-index-preserved
loop-index-preserved g c rule means =
    let loop = c.loop-index in
    lowest_next rule _ loop.index (loop.invariant rule means) c.loop-index-test.true
    (sym (means _ _ c.loop-index-test.true c.test.ensures) ∙ c.if-test.false)

pub returns : goal.returns
returns g c rule means =
    let loop = c.loop-index in
    let ended : loop.index ≡ c.args.count = omega arith in
    sym ended ∙ lowest_end rule _ loop.index (loop.invariant rule means) c.loop-index-test.false
