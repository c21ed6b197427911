-- `plan::sharing::colours_of` meets its contract. Assumes nothing.
use mathlib.Core.Path.{refl}
use Rattle.plan.specs.Colours.{colours_of}
use Rattle.plan.proofs.sharing.colours_of.Goals as goal

pub returns : goal.returns
unfolding colours_of
returns c = refl
