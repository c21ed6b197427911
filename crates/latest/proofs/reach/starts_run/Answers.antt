-- `latest::reach::starts_run` meets its contract. Assumes nothing.
use mathlib.Core.Path.{refl}
use Rattle.latest.specs.Reach.{starts_run}
use Rattle.latest.proofs.reach.starts_run.Goals as goal

pub returns : goal.returns
unfolding starts_run
returns c = refl
