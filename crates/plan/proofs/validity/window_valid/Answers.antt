-- `plan::validity::window_valid` meets its contract. Assumes nothing.
use Rattle.plan.specs.Validity.{window_valid}
use Rattle.plan.proofs.validity.window_valid.Goals as goal

pub returns-then-declared : goal.returns-then-declared
unfolding window_valid
returns-then-declared c plan slot owner length domains declared =
    simp (owner, length, domains, declared, c.if-declared.true, ← c.is_within-within.ensures)

pub returns-else-declared : goal.returns-else-declared
unfolding window_valid
returns-else-declared c plan slot owner length domains declared = simp (owner, length, domains, declared, c.if-declared.false)
