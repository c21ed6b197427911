-- `plan::sharing::has_bit` meets its contract. Assumes nothing.
use mathlib.Core.Path.{refl}
use Rattle.plan.specs.Colours.{has_bit}
use Rattle.plan.proofs.sharing.has_bit.Goals as goal

pub returns : goal.returns
unfolding has_bit
returns c = refl
