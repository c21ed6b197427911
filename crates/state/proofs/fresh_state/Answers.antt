-- `state::fresh_state` meets its contract. Assumes nothing.
use mathlib.Core.Path.{refl}
use Rattle.state.specs.World.{fresh_state}
use Rattle.state.proofs.fresh_state.Goals as goal

pub returns : goal.returns
unfolding fresh_state
returns c = refl
