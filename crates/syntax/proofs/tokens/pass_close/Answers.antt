-- `syntax::tokens::pass_close` meets its contract. Assumes nothing.
use native.Mathlib.Omega.{arith}
use mathlib.Core.Path.{refl}
use Rattle.lexer.proofs.Lookaheads.{no_close_next, close_next, start_next}
use Rattle.lexer.proofs.Reached.{reached}
use Rattle.syntax.specs.Tokens.{pass_close}
use Rattle.syntax.proofs.tokens.pass_close.Goals as goal

pub returns-in_default : goal.returns-in_default
unfolding pass_close
returns-in_default c =
    simp (
      no_close_next _ _ c.lookahead_at-next.ensures c.in_default.not-Close,
      ← (start_next _ _ c.lookahead_at-next.ensures c.lookahead_start.ensures),
    )

pub overflow_add-result : goal.overflow_add-result
overflow_add-result c =
    let asked = c.lookahead_at-next.ensures in
    omega (arith, reached _ _ refl (close_next _ _ asked c.in-Close.is))

pub returns : goal.returns
unfolding pass_close
returns c =
    simp
    (close_next _ _ c.lookahead_at-next.ensures c.in-Close.is)
