-- `syntax::op_tokens::number_op` meets its contract. Assumes nothing.
use Rattle.std.proofs.lemmas.Result.{err_from_is_err_and}
use Rattle.syntax.proofs.Advance.{limited}
use Rattle.syntax.specs.Ops.{number_op}
use Rattle.syntax.proofs.op_tokens.number_op.Goals as goal

pub op-requires : goal.op-requires
op-requires g c = c.requires _ (limited _ _ _ _ c.take_number.ensures c.in_ok-number.was).1

pub returns-in_err-number : goal.returns-in_err-number
unfolding number_op
returns-in_err-number g c rule makes =
    let told = err_from_is_err_and c.from_residual.result c.from_residual.ensures.1 in
    rw (told.1, told.2) (simp (← c.take_number.ensures, c.in_err-number.was))

pub returns : goal.returns
unfolding number_op
returns g c rule makes =
    let most = (limited _ _ _ _ c.take_number.ensures c.in_ok-number.was).1 in
    simp (← c.take_number.ensures, c.in_ok-number.was, makes _ _ most c.op.ensures)
