-- `syntax::tokens::pass_line_end` meets its contract. Assumes nothing.
use Rattle.lexer.proofs.Lookaheads.{end_next, no_end_next, start_next}
use Rattle.syntax.specs.Tokens.{pass_line_end}
use Rattle.syntax.proofs.tokens.pass_line_end.Goals as goal

pub returns-in_default : goal.returns-in_default
unfolding pass_line_end
returns-in_default c =
    simp (
      no_end_next _ _ c.lookahead_at-next.ensures c.in_default.not-LineEnd,
      ← (start_next _ _ c.lookahead_at-next.ensures c.lookahead_start.ensures),
    )

pub returns : goal.returns
unfolding pass_line_end
returns c =
    simp
    (end_next _ _ c.lookahead_at-next.ensures c.in-LineEnd.is)
