-- `latest::figure::late_by` meets its contract. Assumes nothing.
use mathlib.Core.Path.{refl}
use Rattle.latest.specs.Latest.{late_by}
use Rattle.latest.proofs.figure.late_by.Goals as goal

pub returns : goal.returns
unfolding late_by
returns c = refl
