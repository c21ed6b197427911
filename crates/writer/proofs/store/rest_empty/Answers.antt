-- `writer::store::rest_empty` meets its contract. Assumes nothing.
use Rattle.std.proofs.Common.{arith, eqb, get_or, ltb, rules, tests, ℕ, ◌+◌, ◌*◌, ◌-◌, ◌||◌, ◌≡◌, ap, ◌∙◌}
use Rattle.std.proofs.lemmas.Iterator.{YieldsList-from_slice}
use Rattle.std.proofs.lemmas.Iterator.Search.{all_from_yields_List}
use Rattle.plan.specs.Sums.{all_below}
use Rattle.script.specs.Limits.{most_ops}
use Rattle.writer.proofs.StoreParts.{rest_zero}
use Rattle.writer.specs.Scripts.{op_or_zero}
use Rattle.writer.proofs.store.rest_empty.Goals as goal

pub returns : goal.returns
unfolding op_or_zero
returns c =
    let args = c.args in
    let scripts = args.scripts.now in
    let first : ℕ = most_ops * args.domain in
    let ops : ℕ = c.written_ops-ops.result in
    let kept = c.written_ops-ops.ensures in
    let more : ℕ = first + most_ops - (first + ops) in
    let whole : ops + more ≡ most_ops = omega (arith, kept.1) in
    all_from_yields_List (λ number. eqb number 0) _ _ _ c.all.ensures.ran
    (YieldsList-from_slice _ c.iter.ensures.rest) (λ number test state called. search (rules, tests))
    ∙ rest_zero scripts first ops more (omega (arith, kept.1))
    ∙ ap (all_below (λ position. ltb position ops || eqb (get_or scripts (first + position) 0) 0)) whole
    ∙ ap (λ (count : ℕ). all_below (λ position. ltb position count || eqb (get_or scripts (first + position) 0) 0) most_ops) kept.0
