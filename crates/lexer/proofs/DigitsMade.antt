-- Laws on a number's decimal digits, as they are made from the last one on into the back of a list. Assumes nothing.
use Prim.Native.Nat.{ℕ, zero, suc, ◌+◌, ◌-◌, ◌/◌, ◌%◌, ◌^◌, ◌≤◌, ◌<◌}
use mathlib.Core.Path.{◌≡◌, ap}
use mathlib.Core.Bool.{Bool, true, false}
use mathlib.Core.List.{List, [], ◌∷◌, ◌++◌, append_assoc}
use native.Mathlib.Nat.{not-suc-le-zero, pow-suc}
use native.Mathlib.Omega.{arith}
use lib.ListN.{drop, length, length-drop, length-set, set, take}
use lib.Seq.{drop-cons, drop-set-lt, get_or-set_same, take_all}
use borrow.Author.Tests.{le-ltb, lt-ltb}
use Rattle.lexer.specs.Decimal.{digits_of}

-- what a number's digits are by the test whether it has one digit alone
abbrev by_test : ℕ → ℕ → Bool → List ℕ
by_test places number test =
    elim test [
      | true ↦ (48 + number) ∷ []
      | false ↦ digits_of places (number / 10) ++ ((48 + number % 10) ∷ [])
    ]

one_digit : (places number : ℕ) → number ≤ 9 → digits_of (suc places) number ≡ (48 + number) ∷ []
unfolding digits_of
one_digit places number small = ap (by_test places number) (lt-ltb number 10 (omega arith))

more_digits : (places number : ℕ) → 9 < number → digits_of (suc places) number ≡ digits_of places (number / 10) ++ ((48 + number % 10) ∷ [])
unfolding digits_of
more_digits places number large = ap (by_test places number) (le-ltb number 10 large)

-- a list from an index on, after a store there
from_store :
    (digits : List ℕ) (index digit : ℕ)
    → index < length digits
    → drop index (set digits index digit) ≡ digit ∷ drop (suc index) digits
from_store digits index digit within =
    let inside : index < length (set digits index digit) = simp length-set within in
    rw (
      drop-cons (set digits index digit) index 0 inside,
      get_or-set_same digits index digit 0 within,
      drop-set-lt (suc index) digits index digit (omega arith),
    )

-- where a number of more than one digit fits a number of digits, its front fits one digit fewer, and at least one is left
pub front_fits : (places number : ℕ) → 9 < number → number < 10 ^ places → (number / 10 < 10 ^ (places - 1)) × (1 < places)
front_fits zero number large fits = omega arith
front_fits (suc zero) number large fits = omega arith
front_fits (suc (suc places)) number large fits =
    let fewer : suc (suc places) - 1 ≡ suc places = omega arith in
    (rw fewer (omega (arith, pow-suc 10 (suc places))), omega arith)

-- the last digit of a number of more than one goes in front of those made before
pub digit_made :
    (places number : ℕ) (digits : List ℕ)
    → 9 < number
    → 0 < places
    → places ≤ length digits
    → digits_of places number ++ drop places digits
    ≡ digits_of (places - 1) (number / 10) ++ drop (places - 1) (set digits (places - 1) (48 + number % 10))
digit_made zero number digits large some room = absurd (not-suc-le-zero some)
digit_made (suc places) number digits large some room =
    let fewer : suc places - 1 ≡ places = omega arith in
    rw (fewer, from_store digits places (48 + number % 10) (omega arith), more_digits places number large, append_assoc)

-- the only digit of a number of one, and all that was made before
pub last_digit_made :
    (places number width : ℕ) (digits : List ℕ)
    → number ≤ 9
    → 0 < places
    → places ≤ width
    → length digits ≡ width
    → digits_of places number ++ drop places digits
    ≡ take (width - (places - 1)) (drop (places - 1) (set digits (places - 1) (48 + number)))
last_digit_made zero number width digits small some room long = absurd (not-suc-le-zero some)
last_digit_made (suc places) number width digits small some room long =
    let fewer : suc places - 1 ≡ places = omega arith in
    let made : List ℕ = set digits places (48 + number) in
    let whole : length (drop places made) ≤ width - places = simp (length-drop, length-set) (omega arith) in
    rw (
      fewer,
      take_all (width - places) (drop places made) whole,
      from_store digits places (48 + number) (omega arith),
      one_digit places number small,
    )
