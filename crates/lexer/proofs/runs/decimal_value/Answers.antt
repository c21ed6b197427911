-- `lexer::runs::decimal_value` meets its contract: the digits left give the rest of the number, which is below 10 ^ i after i digits. Assumes nothing.
use native.Mathlib.Omega.{arith}
use mathlib.Core.Path.{refl, sym, ◌∙◌}
use borrow.Author.Rules.{rules}
use Prim.Native.Nat.{◌≤◌}
use lib.ListN.{get_or}
use Rattle.lexer.specs.Bytes.{is_digit}
use Rattle.lexer.specs.Tokens.{decimal_value}
use Rattle.lexer.proofs.Scanning.{all_at}
use Rattle.lexer.proofs.Values.{digit_limits, digit_more, value_end, value_from, value_next}
use Rattle.lexer.proofs.runs.decimal_value.Goals as goal

pub loop-digit-init : goal.loop-digit-init
unfolding value_from decimal_value
loop-digit-init c = (refl, search rules)

-- the byte read is a digit
pub overflow_sub-digit : goal.overflow_sub-digit
overflow_sub-digit c = (digit_limits _ (all_at is_digit _ _ c.requires.1 c.loop-digit-test.true)).0

pub loop-digit-preserved : goal.loop-digit-preserved
loop-digit-preserved c =
    let byte = get_or c.args.digits.now c.loop-digit.digit-index 0 in
    let digit : (48 ≤ byte) × (byte ≤ 57) =
    digit_limits _ (all_at is_digit _ _ c.requires.1 c.loop-digit-test.true) in
    rw c.from.ensures (
      value_next _ _ _ c.loop-digit-test.true ∙ c.loop-digit.invariant.0,
      digit_more _ _ _ c.loop-digit.invariant.1 (omega arith),
    )

pub returns : goal.returns
returns c = sym (value_end _ _ _ c.loop-digit-test.false) ∙ c.loop-digit.invariant.0
