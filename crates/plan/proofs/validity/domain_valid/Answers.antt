-- `plan::validity::domain_valid` meets its contract. Assumes nothing.
use borrow.Author.Tests.{le-ltb, lt-ltb}
use Rattle.plan.specs.Validity.{domain_valid, undeclared_valid}
use Rattle.plan.proofs.validity.domain_valid.Goals as goal

pub returns-then-domain-plan : goal.returns-then-domain-plan
unfolding domain_valid undeclared_valid
returns-then-domain-plan c = simp (lt-ltb _ _ c.if-domain-plan.true, ← c.declared_valid.ensures)

pub returns : goal.returns
unfolding domain_valid undeclared_valid
returns c = simp (le-ltb _ _ c.if-domain-plan.false)
