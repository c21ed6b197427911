-- `plan::timing::windows_total` meets its contract. Assumes nothing.
use mathlib.Core.Path.{refl}
use Rattle.plan.specs.Windows.{windows_total}
use Rattle.plan.proofs.timing.windows_total.Goals as goal

pub returns : goal.returns
unfolding windows_total
returns c = refl
