-- Laws of a number's decimal digits: each is a digit, there is at least one, a small number has few, and the number is read back from them.
-- Assumes nothing.
use Prim.Native.Nat.{ℕ, zero, suc, ◌+◌, ◌*◌, ◌-◌, ◌/◌, ◌%◌, ◌^◌, ◌≤◌, ◌<◌}
use native.Mathlib.Nat.{pow-suc}
use native.Mathlib.Omega.{arith}
use mathlib.Core.Bool.{Bool, true, false}
use mathlib.Core.List.{List, [], ◌∷◌, ◌++◌}
use mathlib.Core.Path.{◌≡◌, refl, ◌∙◌}
use lib.Dec.{ltb}
use lib.ListN.{length, length-append}
use borrow.Author.Tests.{le-leb, ltb-false, ltb-true}
use Rattle.lexer.specs.Bytes.{is_digit}
use Rattle.lexer.specs.Decimal.{decimal_of, digits_of}
use Rattle.lexer.specs.Limits.{most_digits, widest_digits}
use Rattle.lexer.specs.Scan.{all_bytes}
use Rattle.lexer.specs.Tokens.{value_after, decimal_value}
use Rattle.lexer.proofs.Scanned.{all_append}

-- what holds of a number below ten written as its one digit, and of a larger one written as the digits of a tenth of it and its last digit, holds
-- of the digits
by_digits :
    (P : List ℕ → Type 0) (places number : ℕ)
    → (number < 10 → P ((48 + number) ∷ []))
    → (10 ≤ number → P (digits_of places (number / 10) ++ ((48 + number % 10) ∷ [])))
    → P (digits_of (suc places) number)
unfolding digits_of
by_digits P places number one more = go (ltb number 10) refl
  where
    go :
        (b : Bool)
        → ltb number 10 ≡ b
        → P (elim b [ true ↦ (48 + number) ∷ [] | false ↦ digits_of places (number / 10) ++ ((48 + number % 10) ∷ []) ])
    go true e = one (ltb-true number 10 e)
    go false e = more (ltb-false number 10 e)

digit_byte : (digit : ℕ) → digit < 10 → all_bytes is_digit ((48 + digit) ∷ []) ≡ true
unfolding all_bytes
digit_byte digit small = rw (le-leb 48 (48 + digit) (omega arith), le-leb (48 + digit) 57 (omega arith))

pub digits_all : (places number : ℕ) → all_bytes is_digit (digits_of places number) ≡ true
unfolding digits_of all_bytes
digits_all zero number = refl
digits_all (suc places) number =
    by_digits (λ (run : List ℕ). all_bytes is_digit run ≡ true) places number (digit_byte number)
    (λ large. all_append is_digit (digits_of places (number / 10)) _ (digits_all places (number / 10)) (digit_byte (number % 10) (omega arith)))

pub digits_some : (places number : ℕ) → 0 < length (digits_of (suc places) number)
digits_some places number =
    by_digits (λ (run : List ℕ). 0 < length run) places number (λ small. omega arith)
    (λ large. omega (arith, length-append (digits_of places (number / 10)) ((48 + number % 10) ∷ [])))

-- no number is written by more digits than there are places
pub digits_most : (places number : ℕ) → length (digits_of places number) ≤ places
unfolding digits_of
digits_most zero number = omega arith
digits_most (suc places) number =
    by_digits (λ (run : List ℕ). length run ≤ suc places) places number (λ small. omega arith)
    (λ large. omega (arith, length-append (digits_of places (number / 10)) ((48 + number % 10) ∷ []), digits_most places (number / 10)))

-- a number of at most so many digits is written by at most so many
pub digits_few : (places more number : ℕ) → number < 10 ^ suc more → length (digits_of places number) ≤ suc more
unfolding digits_of
digits_few zero more number small = omega arith
digits_few (suc places) zero number small =
    by_digits (λ (run : List ℕ). length run ≤ 1) places number (λ one. omega arith) (λ large. absurd (omega arith))
digits_few (suc places) (suc more) number small =
    let tenth : number / 10 < 10 ^ suc more = omega (arith, rw (pow-suc 10 (suc more)) at small) in
    by_digits (λ (run : List ℕ). length run ≤ suc (suc more)) places number (λ one. omega arith)
    (λ large. omega (arith, length-append (digits_of places (number / 10)) ((48 + number % 10) ∷ []), digits_few places more (number / 10) tenth))

-- ---- the number read back

value_append : (before : ℕ) (one other : List ℕ) → value_after before (one ++ other) ≡ value_after (value_after before one) other
unfolding value_after
value_append before [] other = refl
value_append before (digit ∷ one) other = value_append (before * 10 + (digit - 48)) one other

pub digits_value : (places number : ℕ) → number < 10 ^ places → decimal_value (digits_of places number) ≡ number
unfolding digits_of decimal_value value_after
digits_value zero number small = omega arith
digits_value (suc places) number small =
    let tenth : number / 10 < 10 ^ places = omega (arith, rw (pow-suc 10 places) at small) in
    let before : value_after 0 (digits_of places (number / 10)) ≡ number / 10 = digits_value places (number / 10) tenth in
    by_digits (λ (run : List ℕ). value_after 0 run ≡ number) places number (λ one. omega arith)
    (λ large. value_append 0 (digits_of places (number / 10)) ((48 + number % 10) ∷ []) ∙ omega arith)

-- ---- the same of a number's decimal form

pub decimal_all : (number : ℕ) → all_bytes is_digit (decimal_of number) ≡ true
unfolding decimal_of
decimal_all number = digits_all widest_digits number

pub decimal_some : (number : ℕ) → 0 < length (decimal_of number)
unfolding decimal_of
decimal_some number = digits_some 19 number

pub decimal_most : (number : ℕ) → length (decimal_of number) ≤ widest_digits
unfolding decimal_of
decimal_most number = digits_most widest_digits number

-- a number of at most ten digits
pub decimal_few : (number : ℕ) → number < 10_000_000_000 → length (decimal_of number) ≤ most_digits
unfolding decimal_of
decimal_few number small = digits_few widest_digits 9 number small

pub decimal_value_lem : (number : ℕ) → number < 10_000_000_000 → decimal_value (decimal_of number) ≡ number
unfolding decimal_of
decimal_value_lem number small = digits_value widest_digits number (omega arith)
