-- `reader::final_checks::final_verdict` meets its contract. Assumes nothing.
use borrow.Author.Tests.{lt-ltb, le-ltb}
use Rattle.std.proofs.lemmas.Result.{err_from_is_err_and}
use Rattle.reader.specs.Final.{final_verdict}
use Rattle.reader.proofs.final_checks.final_verdict.Goals as goal

pub returns-then-is_lacking : goal.returns-then-is_lacking
unfolding final_verdict
returns-then-is_lacking c = simp (← c.is_lacking.ensures, c.if-is_lacking.true)

pub returns-in_err-may_verdict : goal.returns-in_err-may_verdict
unfolding final_verdict
returns-in_err-may_verdict c =
    let told = err_from_is_err_and c.from_residual.result c.from_residual.ensures.1 in
    rw (told.1, told.2)
    (simp (← c.is_lacking.ensures, c.if-is_lacking.false, ← c.may_verdict.ensures, c.in_err-may_verdict.was))

pub returns-in_err-shares_verdict : goal.returns-in_err-shares_verdict
unfolding final_verdict
returns-in_err-shares_verdict c =
    let told = err_from_is_err_and c.from_residual-in_err-shares_verdict.result c.from_residual-in_err-shares_verdict.ensures.1 in
    rw (told.1, told.2)
    (simp (
      ← c.is_lacking.ensures,
      c.if-is_lacking.false,
      ← c.may_verdict.ensures,
      c.in_ok-may_verdict.was,
      ← c.shares_verdict.ensures,
      c.in_err-shares_verdict.was,
    ))

pub returns-then-ticks_total-gt-MOST_RUN_TICKS : goal.returns-then-ticks_total-gt-MOST_RUN_TICKS
unfolding final_verdict
returns-then-ticks_total-gt-MOST_RUN_TICKS c =
    simp (
      ← c.is_lacking.ensures,
      c.if-is_lacking.false,
      ← c.may_verdict.ensures,
      c.in_ok-may_verdict.was,
      ← c.shares_verdict.ensures,
      c.in_ok-shares_verdict.was,
      ← c.ticks_total.ensures,
      lt-ltb _ _ c.if-ticks_total-gt-MOST_RUN_TICKS.true,
    )

pub returns : goal.returns
unfolding final_verdict
returns c =
    simp (
      ← c.is_lacking.ensures,
      c.if-is_lacking.false,
      ← c.may_verdict.ensures,
      c.in_ok-may_verdict.was,
      ← c.shares_verdict.ensures,
      c.in_ok-shares_verdict.was,
      ← c.ticks_total.ensures,
      le-ltb _ _ c.if-ticks_total-gt-MOST_RUN_TICKS.false,
    )
