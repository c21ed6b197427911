-- `reader::walk::take_op_line` meets its contract. Assumes nothing.
use native.Mathlib.Omega.{arith}
use Rattle.std.proofs.lemmas.Result.{err_from_is_err_and}
use Rattle.line.proofs.GoodLine.{op_declared}
use Rattle.reader.proofs.DraftParts.{not_read, op_not_taken, op_taken}
use Rattle.reader.proofs.walk.take_op_line.Goals as goal

pub take_op-requires : goal.take_op-requires
take_op-requires c =
    omega (arith, op_declared _ _ _ c.op_line.ensures c.in_ok-line.was, c.requires)

pub returns-in_err-line : goal.returns-in_err-line
returns-in_err-line c plan named =
    let told = err_from_is_err_and c.from_residual.result c.from_residual.ensures.1 in
    rw (told.1, told.2) (not_read _ _ _ _ c.op_line.ensures c.in_err-line.was _ _ _)

pub returns-in_err-take_op : goal.returns-in_err-take_op
returns-in_err-take_op c plan named =
    let told = err_from_is_err_and c.from_residual-in_err-take_op.result c.from_residual-in_err-take_op.ensures.1 in
    rw (told.1, told.2)
    (op_not_taken _ _ _ _ c.op_line.ensures c.in_ok-line.was _ _ _ _ _
    (c.take_op.ensures plan named) c.in_err-take_op.was)

pub returns : goal.returns
returns c plan named =
    op_taken _ _ _ _ c.op_line.ensures c.in_ok-line.was _ _ _ _ _
    (c.take_op.ensures plan named) c.in_ok-take_op.was
