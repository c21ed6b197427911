-- `plan::no_plan` meets its contract. Assumes nothing.
use mathlib.Core.Path.{refl}
use Rattle.plan.specs.Zeros.{no_plan}
use Rattle.plan.proofs.no_plan.Goals as goal

pub returns : goal.returns
unfolding no_plan
returns c = refl
