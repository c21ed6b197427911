-- `syntax::may::next_recipient` meets its contract. Assumes nothing.
use native.Mathlib.Omega.{arith}
use Rattle.syntax.proofs.Advance.{limited}
use Rattle.syntax.proofs.may.next_recipient.Goals as goal

pub has_bit-requires : goal.has_bit-requires
has_bit-requires c = omega (arith, limited _ _ _ _ c.take_number.ensures c.in_ok-number.was)
