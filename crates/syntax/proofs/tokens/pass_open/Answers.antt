-- `syntax::tokens::pass_open` meets its contract. Assumes nothing.
use native.Mathlib.Omega.{arith}
use mathlib.Core.Path.{refl}
use Rattle.lexer.proofs.Lookaheads.{no_open_next, open_next, start_next}
use Rattle.lexer.proofs.Reached.{reached}
use Rattle.syntax.specs.Tokens.{pass_open}
use Rattle.syntax.proofs.tokens.pass_open.Goals as goal

pub returns-in_default : goal.returns-in_default
unfolding pass_open
returns-in_default c =
    simp (
      no_open_next _ _ c.lookahead_at-next.ensures c.in_default.not-Open,
      ← (start_next _ _ c.lookahead_at-next.ensures c.lookahead_start.ensures),
    )

pub overflow_add-result : goal.overflow_add-result
overflow_add-result c =
    let asked = c.lookahead_at-next.ensures in
    omega (arith, reached _ _ refl (open_next _ _ asked c.in-Open.is))

pub returns : goal.returns
unfolding pass_open
returns c =
    simp
    (open_next _ _ c.lookahead_at-next.ensures c.in-Open.is)
