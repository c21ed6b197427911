-- `syntax::op_tokens::send_op` meets its contract. Assumes nothing.
use Rattle.std.proofs.Common.{rules}
use native.Mathlib.Omega.{arith}
use Rattle.script.specs.declared.Op.TheVariants.{Send}
use Rattle.syntax.proofs.Advance.{limited}
use Rattle.syntax.specs.Ops.{send_op}
use Rattle.syntax.proofs.op_tokens.send_op.Goals as goal

pub overflow_cast-domain : goal.overflow_cast-domain
overflow_cast-domain c = omega (arith, limited _ _ _ _ c.take_number.ensures c.in_ok-recipient.was)

pub returns : goal.returns
unfolding send_op
returns c =
    simp (
      ← c.take_number.ensures,
      c.in_ok-recipient.was,
      c.number_op.ensures (Send c.in_ok-recipient.recipient.value) (search rules),
    )
