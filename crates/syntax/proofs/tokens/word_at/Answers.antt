-- `syntax::tokens::word_at` meets its contract. Assumes nothing.
use mathlib.Core.Path.{sym, ap}
use Rattle.lexer.specs.Lookaheads.{lookahead_start}
use Rattle.lexer.proofs.Lookaheads.{no_word_known, no_word_next, start_next, word_known}
use Rattle.syntax.specs.Tokens.{word_at}
use Rattle.syntax.proofs.tokens.word_at.Goals as goal

pub returns-in_default : goal.returns-in_default
unfolding word_at
returns-in_default c =
    simp (
      no_word_next _ _ c.lookahead_at-next.ensures c.in_default.not-Run,
      ← (start_next _ _ c.lookahead_at-next.ensures c.lookahead_start.ensures),
    )

pub returns-in_default-word_from : goal.returns-in_default-word_from
unfolding word_at
returns-in_default-word_from c =
    let asked = c.lookahead_at-next.ensures in
    let known = c.in-Run.is in
    simp (
      no_word_known _ _ asked known c.word_from.ensures c.in_default-word_from.not-Word,
      ← (start_next _ _ asked (sym (ap lookahead_start known))),
    )

pub returns : goal.returns
unfolding word_at
returns c =
    simp (word_known _ _
    c.lookahead_at-next.ensures
    c.in-Run.is
    c.word_from.ensures c.in-Word.is)
