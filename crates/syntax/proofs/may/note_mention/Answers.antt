-- `syntax::may::note_mention` meets its contract. Assumes nothing.
use borrow.Author.Tests.{eq-eqb, ne_eqb}
use Rattle.syntax.specs.Recipients.{mention}
use Rattle.syntax.proofs.may.note_mention.Goals as goal

pub returns-then-named-index-eq0 : goal.returns-then-named-index-eq0
unfolding mention
returns-then-named-index-eq0 c = simp (eq-eqb _ _ c.if-named-index-eq0.true)

pub returns-else-named-index-eq0 : goal.returns-else-named-index-eq0
unfolding mention
returns-else-named-index-eq0 c = simp (ne_eqb _ _ c.if-named-index-eq0.false)
