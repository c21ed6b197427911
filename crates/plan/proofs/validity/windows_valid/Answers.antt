-- `plan::validity::windows_valid` meets its contract. The loop's invariant: what was found so far is the test over the indices passed.
-- Assumes nothing.
use mathlib.Core.Path.{refl}
use Rattle.plan.specs.Validity.{window_valid}
use Rattle.plan.specs.Sums.{all_below}
use Rattle.plan.proofs.Sums.{all_below_next}
use Rattle.plan.proofs.validity.windows_valid.Goals as goal

pub loop-slot-init : goal.loop-slot-init
unfolding all_below
loop-slot-init c = refl

pub loop-slot-preserved : goal.loop-slot-preserved
loop-slot-preserved c =
    let l = c.loop-slot in
    all_below_next (window_valid _) l.slot _ _ l.invariant (c.window_valid-valid.ensures _ l.slot refl refl refl refl)
