-- `latest::figure::latest_ticks` meets its contract. Assumes nothing.
use Rattle.latest.specs.Latest.{latest_ticks}
use Rattle.latest.proofs.figure.latest_ticks.Goals as goal

pub returns-then-starts_run : goal.returns-then-starts_run
unfolding latest_ticks
returns-then-starts_run c = simp (← c.starts_run.ensures, c.if-starts_run.true, ← c.latest_first.ensures)

pub returns : goal.returns
unfolding latest_ticks
returns c = simp (← c.starts_run.ensures, c.if-starts_run.false, ← c.latest_later.ensures)
