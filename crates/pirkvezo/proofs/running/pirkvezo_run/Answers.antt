-- `pirkvezo::running::pirkvezo_run` meets its contract. Assumes nothing.
use mathlib.Core.Path.{◌∙◌}
use Rattle.pirkvezo.proofs.Calls.{run_numbers}
use Rattle.pirkvezo.proofs.running.pirkvezo_run.Goals as goal

pub returns : goal.returns
returns c =
    c.run_numbers.ensures
    ∙ run_numbers _ _ _ _ _ _ _ _
