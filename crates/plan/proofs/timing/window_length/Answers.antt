-- `plan::timing::window_length` meets its contract. Assumes nothing.
use mathlib.Core.Path.{refl}
use native.Mathlib.Omega.{arith}
use Rattle.plan.specs.Windows.{window_length}
use Rattle.plan.proofs.ValidPlans.{counts}
use Rattle.plan.proofs.Windows.{slot_below}
use Rattle.plan.proofs.timing.window_length.Goals as goal

pub nonzero_rem-slot : goal.nonzero_rem-slot
nonzero_rem-slot c = (counts _ c.requires).windows_least

pub offset_bounds-lengths-slot : goal.offset_bounds-lengths-slot
offset_bounds-lengths-slot c = omega (arith, slot_below _ c.args.window c.requires, (counts _ c.requires).windows_most)

pub bounds-lengths-slot : goal.bounds-lengths-slot
bounds-lengths-slot c = omega (arith, slot_below _ c.args.window c.requires, (counts _ c.requires).windows_most)

pub returns : goal.returns
unfolding window_length
returns c = refl
