-- `line::head_at` meets its contract. Assumes nothing.
use native.Mathlib.Omega.{arith}
use mathlib.Core.Path.{refl}
use Rattle.lexer.proofs.Lookaheads.{end_next, no_end_next, no_open_next, open_next, start_next}
use Rattle.lexer.proofs.Reached.{reached}
use Rattle.line.specs.Heads.{head_at}
use Rattle.line.proofs.head_at.Goals as goal

pub returns-in-LineEnd : goal.returns-in-LineEnd
unfolding head_at
returns-in-LineEnd c =
    simp (end_next _ _ c.first_in_line-next.ensures
    c.in-LineEnd.is)

pub returns-in_default-next : goal.returns-in_default-next
unfolding head_at
returns-in_default-next c =
    let asked = c.first_in_line-next.ensures in
    simp (
      no_end_next _ _ asked c.in_default.not-LineEnd,
      no_open_next _ _ asked c.in_default-next.not-Open,
      ← (start_next _ _ asked c.lookahead_start-start.ensures),
    )

pub form_head-requires : goal.form_head-requires
form_head-requires c =
    let asked = c.first_in_line-next.ensures in
    omega (arith, reached _ _ refl (open_next _ _ asked c.in-Open.is))

pub returns : goal.returns
unfolding head_at
returns c =
    let asked = c.first_in_line-next.ensures in
    simp (open_next _ _ asked c.in-Open.is, ← c.form_head.ensures)
