-- `write_back` meets its contract: a line that is put out is used as any other. Assumes nothing.
use mathlib.Core.Path.{refl}
use Rattle.cache.specs.Access.{written_back}
use Rattle.cache.proofs.write_back.Goals as goal

pub returns-in-None : goal.returns-in-None
unfolding written_back
returns-in-None c = rw c.in-None.is refl

pub returns-in-Some : goal.returns-in-Some
unfolding written_back
returns-in-Some c = rw c.in-Some.is c.use_line.ensures.1
