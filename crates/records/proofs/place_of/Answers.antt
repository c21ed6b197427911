-- `records::place_of` meets its contract. Assumes nothing.
use borrow.Author.Tests.{eq-eqb, ne_eqb}
use Rattle.records.specs.Records.{only_of}
use Rattle.records.proofs.place_of.Goals as goal

pub returns-then-domain-named : goal.returns-then-domain-named
unfolding only_of
returns-then-domain-named c = simp (c.in-One.is, eq-eqb _ _ c.if-domain-named.true)

pub returns-else-domain-named : goal.returns-else-domain-named
unfolding only_of
returns-else-domain-named c = simp (c.in-One.is, ne_eqb _ _ c.if-domain-named.false)
