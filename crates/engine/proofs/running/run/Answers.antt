-- `engine::running::run` meets its contract. Assumes nothing.
use mathlib.Core.Path.{◌∙◌}
use Rattle.engine.proofs.Verdicts.{whole_called}
use Rattle.engine.proofs.running.run.Goals as goal

pub returns : goal.returns
returns c =
    c.run_lent.ensures ∙ whole_called _ _ _ _
