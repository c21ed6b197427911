-- `latest::reach::own_indices` meets its contract. Assumes nothing.
use native.Mathlib.Omega.{arith}
use Rattle.latest.specs.Reach.{own_indices}
use Rattle.latest.proofs.reach.own_indices.Goals as goal

pub returns : goal.returns
unfolding own_indices
returns c = omega arith
