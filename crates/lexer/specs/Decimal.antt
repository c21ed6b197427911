-- Document 01, "Settled numbers", and document 02, E4: the numbers of the printed lines and of a plan
-- that is written, as decimal digits with no leading zero. Assumes nothing.
use Rattle.std.specs.Prelude.{ℕ, zero, suc, ◌+◌, ◌/◌, ◌%◌, true, false, List, [], ◌∷◌, ◌++◌, ltb}
use Rattle.lexer.specs.Bytes.{zero_digit}
use Rattle.lexer.specs.Limits.{widest_digits}

-- the last digits of a number, at most `count` of them
unfoldable pub digits_of : ℕ → ℕ → List ℕ
digits_of zero number = []
digits_of (suc count) number =
    elim (ltb number 10) [
      | true ↦ (zero_digit + number) ∷ []
      | false ↦ digits_of count (number / 10) ++ ((zero_digit + number % 10) ∷ [])
    ]

-- enough digits for every number of 64 bits
unfoldable pub decimal_of : ℕ → List ℕ
decimal_of number = digits_of widest_digits number
