-- `lexer::decimal::write_decimal` meets its contract. The loop's invariant: the digits of what is left, then those made, are the number's.
-- Assumes nothing.
use mathlib.Core.List.{◌++◌}
use mathlib.Core.Path.{◌≡◌}
use Prim.Native.Nat.{◌<◌, ◌^◌, ◌≤◌}
use lib.ListN.{drop, length}
use Rattle.lexer.specs.Decimal.{decimal_of, digits_of}
use Rattle.lexer.specs.Limits.{widest_digits}
use Rattle.lexer.proofs.decimal.write_decimal.Given as goal

abbrev pub invariant-loop-left : goal.invariant-loop-left
invariant-loop-left l =
    (0 < l.first)
    × (l.first ≤ widest_digits)
    × (l.left < 10 ^ l.first)
    × (length l.digits ≡ widest_digits)
    × (decimal_of l.number ≡ digits_of l.first l.left ++ drop l.first l.digits)

abbrev pub decreases-loop-left : goal.decreases-loop-left
decreases-loop-left l = l.first
