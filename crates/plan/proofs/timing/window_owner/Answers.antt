-- `plan::timing::window_owner` meets its contract. Assumes nothing.
use mathlib.Core.Path.{refl}
use native.Mathlib.Omega.{arith}
use Rattle.plan.specs.Windows.{window_owner}
use Rattle.plan.proofs.ValidPlans.{counts}
use Rattle.plan.proofs.Windows.{slot_below}
use Rattle.plan.proofs.timing.window_owner.Goals as goal

pub nonzero_rem-slot : goal.nonzero_rem-slot
nonzero_rem-slot c = (counts _ c.requires).windows_least

pub offset_bounds-owners-slot : goal.offset_bounds-owners-slot
offset_bounds-owners-slot c = omega (arith, slot_below _ c.args.window c.requires, (counts _ c.requires).windows_most)

pub bounds-owners-slot : goal.bounds-owners-slot
bounds-owners-slot c = omega (arith, slot_below _ c.args.window c.requires, (counts _ c.requires).windows_most)

pub returns : goal.returns
unfolding window_owner
returns c = refl
