-- `latest::witness::boxes_ticks` meets its contract. Assumes nothing.
use native.Mathlib.Omega.{arith}
use Rattle.latest.proofs.witness.boxes_ticks.Goals as goal

pub returns-then-boxes-eq0 : goal.returns-then-boxes-eq0
returns-then-boxes-eq0 c = omega (arith, c.if-boxes-eq0.true)

pub returns : goal.returns
returns c = omega (arith, c.if-boxes-eq0.false)
