-- `syntax::tokens::same_bytes` meets its contract: the bytes left decide the answer. Assumes nothing.
use mathlib.Core.Path.{◌≡◌}
use Rattle.syntax.specs.Tokens.{same_bytes}
use Rattle.syntax.proofs.Words.{same_from}
use Rattle.syntax.proofs.tokens.same_bytes.Given as goal

abbrev pub invariant-loop-i : goal.invariant-loop-i
invariant-loop-i l = same_from l.a l.b l.i ≡ same_bytes l.a l.b
