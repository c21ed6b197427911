-- Laws of the number that a run of digits writes: one digit more, the end, and how large it can get. Assumes nothing.
use Prim.Native.Nat.{ℕ, ◌+◌, ◌*◌, ◌-◌, ◌^◌, ◌≤◌, ◌<◌}
use native.Mathlib.Nat.{pow-suc}
use native.Mathlib.Numerals.{add-one}
use native.Mathlib.Omega.{arith}
use mathlib.Core.Bool.{true, and-eq-true_iff}
use mathlib.Core.List.{List}
use mathlib.Core.Path.{◌≡◌}
use lib.Dec.{leb}
use lib.ListN.{length, get_or, drop, drop_of_length-le}
use lib.Seq.{drop-cons}
use borrow.Author.Tests.{leb-true}
use Rattle.lexer.specs.Bytes.{is_digit}
use Rattle.lexer.specs.Tokens.{value_after}

-- the number that the digits from an offset on write, after one that stands before them
unfoldable pub value_from : ℕ → List ℕ → ℕ → ℕ
value_from value digits i = value_after value (drop i digits)

pub value_next : (digits : List ℕ) (i value : ℕ) → i < length digits
    → value_from (value * 10 + (get_or digits i 0 - 48)) digits (i + 1) ≡ value_from value digits i
unfolding value_from value_after
value_next digits i value h = rw (drop-cons digits i 0, add-one)

pub value_end : (digits : List ℕ) (i value : ℕ) → length digits ≤ i → value_from value digits i ≡ value
unfolding value_from value_after
value_end digits i value h = rw (drop_of_length-le digits h)

-- one digit more makes the number at most ten times as large
pub digit_more : (i value digit : ℕ) → value < 10 ^ i → digit < 10 → value * 10 + digit < 10 ^ (i + 1)
digit_more i value digit h d = rw (add-one, pow-suc) (omega arith)

-- a digit is one of ten bytes
pub digit_limits : (byte : ℕ) → is_digit byte ≡ true → (48 ≤ byte) × (byte ≤ 57)
digit_limits byte e =
    let parts = (and-eq-true_iff (leb 48 byte) (leb byte 57)).0 e in
    (leb-true _ _ parts.0, leb-true _ _ parts.1)
