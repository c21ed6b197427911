-- `latest::witness::last_op` meets its contract. Assumes nothing.
use Rattle.latest.specs.Script.{last_op}
use Rattle.latest.proofs.witness.last_op.Goals as goal

pub returns-then-not-starts_run : goal.returns-then-not-starts_run
unfolding last_op
returns-then-not-starts_run c = simp (← c.starts_run.ensures, c.if-not-starts_run.true)

pub returns : goal.returns
unfolding last_op
returns c =
    simp (
      ← c.starts_run.ensures,
      c.if-not-starts_run.false,
      ← c.first_message.ensures,
    )
