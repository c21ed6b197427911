-- `frame::quotas::is_ahead` meets its contract. Assumes nothing.
use mathlib.Core.Path.{refl}
use Rattle.frame.proofs.quotas.is_ahead.Goals as goal

pub returns : goal.returns
returns c = refl
