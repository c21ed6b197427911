-- `line::op_line` meets its contract. Assumes nothing.
use Rattle.std.proofs.lemmas.Result.{err_from_is_err_and}
use Rattle.line.proofs.Heads.{closed_then, no_other}
use Rattle.line.specs.Lines.{closed_line}
use Rattle.line.proofs.op_line.Goals as goal

pub returns-in_err-form : goal.returns-in_err-form
unfolding closed_line
returns-in_err-form c bracket named =
    let told = err_from_is_err_and c.from_residual.result c.from_residual.ensures.1 in
    rw (told.1, told.2) (simp (← c.op_form.ensures, c.in_err-form.was))

pub returns-in_err-ended : goal.returns-in_err-ended
unfolding closed_line
returns-in_err-ended c bracket named =
    let told = err_from_is_err_and c.from_residual-in_err-ended.result c.from_residual-in_err-ended.ensures.1 in
    rw (told.1, told.2)
    (simp (← c.op_form.ensures, c.in_ok-form.was, closed_then, ← c.closed_end.ensures, c.in_err-ended.was))

pub returns-in_default : goal.returns-in_default
returns-in_default c = absurd (no_other _ _ _ c.op_form.ensures c.in_ok-form.was c.in_default.not-Op)

pub returns : goal.returns
unfolding closed_line
returns c bracket named =
    simp (← c.op_form.ensures, c.in_ok-form.was, closed_then, ← c.closed_end.ensures, c.in_ok-ended.was, c.in-Op.is)
