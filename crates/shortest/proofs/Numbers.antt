-- A run of digits is no shorter than the decimal form of the number that it writes, which has the fewest digits. Assumes nothing.
use Prim.Native.Nat.{ℕ, ◌+◌, ◌*◌, ◌-◌, ◌^◌, ◌≤◌, ◌<◌}
use native.Mathlib.Nat.{add-zero, not-suc-le-zero}
use native.Mathlib.Omega.{arith}
use mathlib.Core.Bool.{true, and-eq-true_iff}
use mathlib.Core.List.{List, [], ◌∷◌}
use mathlib.Core.Path.{◌≡◌, subst}
use lib.ListN.{length}
use Rattle.lexer.specs.Bytes.{is_digit}
use Rattle.lexer.specs.Decimal.{decimal_of}
use Rattle.lexer.specs.Limits.{widest_digits}
use Rattle.lexer.specs.Scan.{all_bytes}
use Rattle.lexer.specs.Tokens.{decimal_value, value_after}
use Rattle.lexer.proofs.Decimals.{digits_few}
use Rattle.lexer.proofs.Values.{digit_limits, digit_more}

-- so many digits more write a number of at most so many digits more
value_small :
    (run : List ℕ) (places before : ℕ)
    → before < 10 ^ places
    → all_bytes is_digit run ≡ true
    → value_after before run < 10 ^ (places + length run)
unfolding value_after all_bytes
value_small [] places before small digits = rw (add-zero places) small
value_small (digit ∷ run) places before small digits =
    let parts = (and-eq-true_iff (is_digit digit) (all_bytes is_digit run)).0 digits in
    let limits = digit_limits digit parts.0 in
    let value = before * 10 + (digit - 48) in
    let places-more : places + 1 + length run ≡ places + length (digit ∷ run) = omega arith in
    subst (λ (n : ℕ). value_after value run < 10 ^ n) places-more
    (value_small run (places + 1) value (digit_more places before (digit - 48) small (omega arith)) parts.1)

pub digits_enough : (run : List ℕ) → 0 < length run → all_bytes is_digit run ≡ true → length (decimal_of (decimal_value run)) ≤ length run
unfolding decimal_of decimal_value
digits_enough [] some digits = absurd (not-suc-le-zero some)
digits_enough (digit ∷ run) some digits =
    let value = value_after 0 (digit ∷ run) in
    let places : 0 + length (digit ∷ run) ≡ length (digit ∷ run) = omega arith in
    digits_few widest_digits (length run) value
    (subst (λ (n : ℕ). value < 10 ^ n) places (value_small (digit ∷ run) 0 0 (omega arith) digits))
