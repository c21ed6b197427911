-- `reader::final_checks::plan_with_masks` meets its contract. Assumes nothing.
use mathlib.Core.Path.{ap}
use Rattle.plan.specs.Parts.{with_masks}
use Rattle.reader.specs.Final.{plan_with_masks}
use Rattle.reader.proofs.final_checks.plan_with_masks.Goals as goal

pub returns : goal.returns
unfolding plan_with_masks with_masks
returns c = ap (with_masks c.args.plan) c.masks_of-masks.ensures
