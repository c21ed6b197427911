-- `engine::keeping::run_kept` meets its contract. Assumes nothing.
use mathlib.Core.Path.{◌∙◌}
use Rattle.engine.proofs.Verdicts.{part_called}
use Rattle.engine.proofs.keeping.run_kept.Goals as goal

pub returns : goal.returns
returns c =
    c.run_lent.ensures ∙ part_called _ _ _ _ _ _
