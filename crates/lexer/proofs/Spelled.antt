-- Written words and numbers are read as tokens: a run of letters as a word, and the decimal form of a number of at most ten digits as that number.
-- Assumes nothing.
use Prim.Native.Nat.{ℕ, ◌+◌, ◌≤◌, ◌<◌}
use native.Mathlib.Nat.{not-suc-le-zero}
use native.Mathlib.Omega.{arith}
use mathlib.Core.Bool.{true, false, and-eq-true_iff}
use mathlib.Core.List.{List, [], ◌∷◌, ◌++◌}
use mathlib.Core.Path.{◌≡◌, ◌∙◌}
use lib.Dec.{leb}
use lib.ListN.{drop, length}
use borrow.Author.Tests.{le-leb, leb-true, lt-leb}
use Rattle.lexer.specs.declared.Token.TheVariants.{Word, Number}
use Rattle.lexer.specs.Bytes.{ends_run, is_digit, is_letter}
use Rattle.lexer.specs.Decimal.{decimal_of}
use Rattle.lexer.specs.Scan.{all_bytes}
use Rattle.lexer.specs.Tokens.{digits_token, run_token, token_at}
use Rattle.lexer.proofs.Decimals.{decimal_all, decimal_few, decimal_some, decimal_value_lem}
use Rattle.lexer.proofs.Scanned.{all_weaker, in_run_lem, in_run, run_token_lem, stops_at}

pub letter_in_run : (byte : ℕ) → is_letter byte ≡ true → in_run byte ≡ true
letter_in_run byte letter =
    let least : 97 ≤ byte = leb-true 97 byte ((and-eq-true_iff (leb 97 byte) (leb byte 122)).0 letter).0 in
    in_run_lem byte (omega arith)

digit_least : (byte : ℕ) → is_digit byte ≡ true → (48 ≤ byte) × (byte ≤ 57)
digit_least byte digit =
    let parts = (and-eq-true_iff (leb 48 byte) (leb byte 57)).0 digit in
    (leb-true 48 byte parts.0, leb-true byte 57 parts.1)

pub digit_in_run : (byte : ℕ) → is_digit byte ≡ true → in_run byte ≡ true
digit_in_run byte digit = in_run_lem byte (omega (arith, digit_least byte digit))

-- a run of digits is no word
pub digits_no_word : (run : List ℕ) → 0 < length run → all_bytes is_digit run ≡ true
    → all_bytes is_letter run ≡ false
unfolding all_bytes
digits_no_word [] some digits = absurd (not-suc-le-zero some)
digits_no_word (byte ∷ run) some digits =
    let limits = digit_least byte ((and-eq-true_iff (is_digit byte) (all_bytes is_digit run)).0 digits).0 in
    rw (lt-leb 97 byte (omega arith))

module _ (text : List ℕ) (at : ℕ) where
  pub word_token :
      (word rest : List ℕ)
      → drop at text ≡ word ++ rest
      → 0 < length word
      → all_bytes is_letter word ≡ true
      → stops_at ends_run rest ≡ true
      → token_at text at ≡ Word at (at + length word)
  unfolding run_token
  word_token word rest left some letters ends =
      run_token_lem text at word rest left some (all_weaker is_letter in_run word letter_in_run letters) ends ∙ rw letters

  pub number_token :
      (number : ℕ) (rest : List ℕ)
      → drop at text ≡ decimal_of number ++ rest
      → number < 10_000_000_000
      → stops_at ends_run rest ≡ true
      → token_at text at ≡ Number at (at + length (decimal_of number)) number
  unfolding run_token digits_token
  number_token number rest left small ends =
      let run = decimal_of number in
      let digits : all_bytes is_digit run ≡ true = decimal_all number in
      let over : all_bytes in_run run ≡ true = all_weaker is_digit in_run run digit_in_run digits in
      run_token_lem text at run rest left (decimal_some number) over ends
      ∙ rw (digits_no_word run (decimal_some number) digits, digits, le-leb (length run) 10 (decimal_few number small), decimal_value_lem number small)
