-- `ops::box_observation` meets its contract. Assumes nothing.
use borrow.Author.Tests.{eq-eqb, ne_eqb}
use Rattle.ops.specs.Ops.{box_observation}
use Rattle.ops.proofs.box_observation.Goals as goal

pub returns-then-number-eq0 : goal.returns-then-number-eq0
unfolding box_observation
returns-then-number-eq0 c = simp (eq-eqb _ _ c.if-number-eq0.true)

pub returns-else-number-eq0 : goal.returns-else-number-eq0
unfolding box_observation
returns-else-number-eq0 c = simp (ne_eqb _ _ c.if-number-eq0.false)
