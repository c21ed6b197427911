-- `latest::witness::opening_ops` meets its contract. Assumes nothing.
use mathlib.Core.Path.{◌∙◌}
use Rattle.plan.proofs.Sums.{number_of_not}
use Rattle.latest.specs.Script.{opening_ops}
use Rattle.latest.proofs.witness.opening_ops.Goals as goal

pub returns-then-not-starts_run : goal.returns-then-not-starts_run
unfolding opening_ops
returns-then-not-starts_run c = simp (← c.starts_run.ensures, c.if-not-starts_run.true)

pub returns : goal.returns
unfolding opening_ops
returns c =
    c.from.ensures
    ∙ number_of_not c.has_box.result
    ∙ simp (← c.starts_run.ensures, c.if-not-starts_run.false, ← c.has_box.ensures)
