-- `state::state_validity::domain_counts_valid` meets its contract. Assumes nothing.
use mathlib.Core.Path.{refl}
use borrow.Author.Tests.{le-ltb, lt-ltb}
use Rattle.state.specs.StateValidity.{domain_counts_valid}
use Rattle.state.proofs.state_validity.domain_counts_valid.Goals as goal

pub returns-then-domain-domains : goal.returns-then-domain-domains
unfolding domain_counts_valid
returns-then-domain-domains c = rw (lt-ltb _ _ c.if-domain-domains.true) refl

pub returns-else-domain-domains : goal.returns-else-domain-domains
unfolding domain_counts_valid
returns-else-domain-domains c = rw (le-ltb _ _ c.if-domain-domains.false) refl
