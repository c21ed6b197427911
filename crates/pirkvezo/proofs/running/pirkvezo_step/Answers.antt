-- `pirkvezo::running::pirkvezo_step` meets its contract. Assumes nothing.
use mathlib.Core.Path.{◌∙◌}
use Rattle.pirkvezo.proofs.Calls.{step_numbers}
use Rattle.pirkvezo.proofs.running.pirkvezo_step.Goals as goal

pub returns : goal.returns
returns c =
    c.run_numbers.ensures
    ∙ step_numbers _ _ _ _ _ _ _
