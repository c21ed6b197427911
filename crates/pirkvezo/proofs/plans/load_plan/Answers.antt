-- `pirkvezo::plans::load_plan` meets its contract. Assumes nothing.
use mathlib.Core.Path.{◌∙◌, refl, sym}
use native.Mathlib.Omega.{arith}
use Rattle.lists.specs.Part.{part}
use Rattle.plan.specs.Limits.{most_domains, most_windows}
use Rattle.pirkvezo.specs.Numbers.{handed_plan, lengths_offset, owners_offset, plan_of, rights_offset, shares_offset}
use Rattle.pirkvezo.proofs.Whole.{run_part}
use Rattle.pirkvezo.proofs.plans.load_plan.Goals as goal

pub returns-then-not-masks_fit : goal.returns-then-not-masks_fit
unfolding handed_plan
returns-then-not-masks_fit c = rw (c.no_plan.ensures, sym c.masks_fit.ensures ∙ c.if-not-masks_fit.true) refl

pub returns : goal.returns
unfolding handed_plan part plan_of
returns c =
    rw (
      sym c.masks_fit.ensures ∙ c.if-not-masks_fit.false,
      run_part c.args.numbers.now shares_offset most_domains (omega arith),
      run_part c.args.numbers.now rights_offset most_domains (omega arith),
      run_part c.args.numbers.now owners_offset most_windows (omega arith),
      run_part c.args.numbers.now lengths_offset most_windows (omega arith),
      c.copy_from_slice.ensures.after,
      c.copy_from_slice-2.ensures.after,
      c.copy_from_slice-3.ensures.after,
      c.copy_from_slice-4.ensures.after,
      c.take_masks-masks.ensures,
    ) refl
