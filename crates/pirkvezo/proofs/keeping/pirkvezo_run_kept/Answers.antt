-- `pirkvezo::keeping::pirkvezo_run_kept` meets its contract. Assumes nothing.
use mathlib.Core.Path.{◌∙◌}
use Rattle.pirkvezo.proofs.Calls.{kept_numbers_lem}
use Rattle.pirkvezo.proofs.keeping.pirkvezo_run_kept.Goals as goal

pub returns : goal.returns
returns c =
    c.run_numbers.ensures
    ∙ kept_numbers_lem _ _ _ _ _ _ _ _ _ _
