-- `plan::validity::counts_valid` meets its contract. Assumes nothing.
use Rattle.plan.specs.Validity.{counts_valid}
use Rattle.plan.proofs.validity.counts_valid.Goals as goal

pub returns : goal.returns
unfolding counts_valid
returns c = simp (← c.is_within-pad.ensures, ← c.is_within-run.ensures, ← c.is_within-domains.ensures, ← c.is_within-windows.ensures)
