-- `pirkvezo::states::load_state` meets its contract. Assumes nothing.
use mathlib.Core.Path.{refl}
use Rattle.pirkvezo.specs.Numbers.{state_of}
use Rattle.pirkvezo.proofs.states.load_state.Goals as goal

pub returns : goal.returns
unfolding state_of
returns c = rw (c.take_counts.ensures, c.take_counts-2.ensures) refl
