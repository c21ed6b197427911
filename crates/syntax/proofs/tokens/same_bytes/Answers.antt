-- `syntax::tokens::same_bytes` meets its contract: the bytes left decide the answer. Assumes nothing.
use mathlib.Core.Path.{refl, sym, ◌∙◌}
use borrow.Author.Rules.{rules}
use Rattle.syntax.proofs.Words.{same_from, same_lengths, same_fails, same_next, same_end}
use Rattle.syntax.proofs.tokens.same_bytes.Goals as goal

pub returns-then-a-b : goal.returns-then-a-b
returns-then-a-b c = sym (same_lengths _ _ c.if-a-b.true)

pub loop-i-init : goal.loop-i-init
unfolding same_from
loop-i-init c = refl

pub returns-then-a-i : goal.returns-then-a-i
returns-then-a-i c = sym (same_fails _ _ _ (search rules) (search rules) c.if-a-i.true) ∙ c.loop-i.invariant

pub loop-i-preserved : goal.loop-i-preserved
loop-i-preserved c = same_next _ _ _ (search rules) (search rules) c.if-a-i.false ∙ c.loop-i.invariant

pub returns : goal.returns
returns c = sym (same_end _ _ _ (search rules) (search rules)) ∙ c.loop-i.invariant
