-- `lexer::runs::decimal_value` meets its contract: the digits left give the rest of the number, which is below 10 ^ i after i digits. Assumes nothing.
use Prim.Native.Nat.{◌<◌, ◌^◌}
use mathlib.Core.Path.{◌≡◌}
use Rattle.lexer.specs.Tokens.{decimal_value}
use Rattle.lexer.proofs.Values.{value_from}
use Rattle.lexer.proofs.runs.decimal_value.Given as goal

abbrev pub invariant-loop-digit : goal.invariant-loop-digit
invariant-loop-digit l =
    (value_from l.value l.digits l.digit-index ≡ decimal_value l.digits) × (l.value < 10 ^ l.digit-index)
