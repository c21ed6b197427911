-- `flush::empty_line` meets its contract: two stores. Assumes nothing.
use mathlib.Core.Path.{refl}
use Rattle.cache.specs.Flush.{line_emptied}
use Rattle.cache.proofs.flush.empty_line.Goals as goal

pub returns : goal.returns
unfolding line_emptied
returns c = refl
