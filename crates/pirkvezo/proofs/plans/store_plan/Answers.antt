-- `pirkvezo::plans::store_plan` meets its contract: one list of numbers is written behind the other. Assumes nothing.
use mathlib.Core.Path.{◌≡◌, ◌∙◌}
use native.Mathlib.Omega.{arith}
use Rattle.std.proofs.Common.{rules}
use Rattle.std.proofs.lemmas.List.{ext_get_or}
use Rattle.plan.specs.Limits.{most_domains, most_windows}
use Rattle.pirkvezo.specs.Numbers.{plan_numbers}
use Rattle.pirkvezo.proofs.Written.{full, next_copied, plan_begun}
use Rattle.pirkvezo.proofs.plans.store_plan.Goals as goal

pub returns : goal.returns
unfolding plan_numbers
returns c =
    let begun = plan_begun c.args.plan c.args.numbers.now c.requires in
    let first = next_copied most_domains begun (omega arith) c.copy_from_slice.ensures.after (search rules) in
    let second = next_copied most_domains first (omega arith) c.copy_from_slice-2.ensures.after (search rules) in
    let third = next_copied most_windows second (omega arith) c.copy_from_slice-3.ensures.after (search rules) in
    let fourth = next_copied most_windows third (omega arith) c.copy_from_slice-4.ensures.after (search rules) in
    let widened : c.map.result ≡ c.args.plan.masks =
    ext_get_or 0 _ _ (search rules) (λ i below. let called = (c.map.ensures.items.at i 0 0 (omega arith)).2 in (search rules)) in
    full (next_copied most_domains fourth (omega arith) (c.copy_from_slice-5.ensures.after ∙ widened) (search rules))
