-- `plan::sharing::holding` meets its contract. Assumes nothing.
use borrow.Author.Tests.{le-ltb, lt-ltb}
use Rattle.plan.specs.Colours.{holding_of}
use Rattle.plan.proofs.sharing.holding.Goals as goal

pub returns-then-domain-lt-DOMAIN_ENTRIES : goal.returns-then-domain-lt-DOMAIN_ENTRIES
unfolding holding_of
returns-then-domain-lt-DOMAIN_ENTRIES c = simp (lt-ltb _ _ c.if-domain-lt-DOMAIN_ENTRIES.true)

pub returns : goal.returns
unfolding holding_of
returns c = simp (le-ltb _ _ c.if-domain-lt-DOMAIN_ENTRIES.false)
