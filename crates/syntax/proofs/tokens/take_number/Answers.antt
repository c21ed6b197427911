-- `syntax::tokens::take_number` meets its contract. Assumes nothing.
use native.Mathlib.Omega.{arith}
use Rattle.lexer.proofs.Lookaheads.{no_long_number_next, no_number_next, number_next, number_start}
use Rattle.lexer.proofs.Lookaheads.{start_next}
use Rattle.lexer.proofs.OtherKind.{no_long_number, no_number}
use Rattle.plan.proofs.ValidPlans.{limits}
use Rattle.syntax.specs.Tokens.{take_number}
use Rattle.syntax.proofs.NumberDue.{number_taken}
use Rattle.syntax.proofs.tokens.take_number.Goals as goal

pub returns-in_default : goal.returns-in_default
unfolding take_number
returns-in_default c =
    let asked = c.lookahead_at-next.ensures in
    simp (
      no_number_next _ _ asked c.in_default.not-Run,
      no_long_number_next _ _ asked c.in_default.not-Run,
      ← (start_next _ _ asked c.lookahead_start.ensures),
    )

pub returns-in-LongNumber : goal.returns-in-LongNumber
returns-in-LongNumber c =
    number_taken _ _ _ _
    (number_next _ _
    c.lookahead_at-next.ensures
    c.in-Run.is
    c.number_from.ensures)
    (simp c.in-LongNumber.is)

pub returns-in_default-number_from : goal.returns-in_default-number_from
returns-in_default-number_from c =
    let read = c.number_from.ensures in
    number_taken _ _ _ _
    (number_next _ _ c.lookahead_at-next.ensures
    c.in-Run.is read)
    (simp (no_long_number _ c.in_default-number_from.not-LongNumber, no_number _ c.in_default-number_from.not-Number, ← (number_start _ _ read)))

pub overflow_cast-result : goal.overflow_cast-result
overflow_cast-result c =
    let args =
    c.args in
    omega (
      arith,
      limits args.low args.high c.in-Number.value
          c.if-low-value.true,
    )

pub returns-then-low-value : goal.returns-then-low-value
returns-then-low-value c =
    number_taken _ _ _ _
    (number_next _ _
    c.lookahead_at-next.ensures
    c.in-Run.is
    c.number_from.ensures)
    (simp (c.in-Number.is, c.if-low-value.true))

pub returns-else-low-value : goal.returns-else-low-value
returns-else-low-value c =
    number_taken _ _ _ _
    (number_next _ _
    c.lookahead_at-next.ensures
    c.in-Run.is
    c.number_from.ensures)
    (simp (c.in-Number.is, c.if-low-value.false))
