-- What is due stands next: where what is left of a text begins with a bracket, a word, a number after a space or a line's end, taking that thing goes
-- on to what follows it. Each law hands on what is left from there, so that they chain. Assumes nothing.
use Rattle.std.specs.Prelude.{Result, Ok, Err}
use Prim.Native.Nat.{ℕ, ◌+◌, ◌-◌, ◌≤◌, ◌<◌}
use native.Mathlib.Omega.{arith}
use mathlib.Core.Bool.{true}
use mathlib.Core.List.{List, [], ◌∷◌, ◌++◌}
use mathlib.Core.Path.{◌≡◌, refl, ap, ◌∙◌}
use lib.ListN.{drop, length}
use lib.Seq.{take-append_seam}
use borrow.Author.Tests.{eq-eqb, le-leb}
use Rattle.lists.specs.Ascii.{bytes_of}
use Rattle.lists.specs.Part.{part}
use Rattle.refusal.specs.declared.Refusal.{Refusal}
use Rattle.syntax.specs.Brackets.{bracketed_number, pass_head}
use Rattle.syntax.specs.Tokens.{is_word, pass_close, pass_line_end, pass_open, pass_word, same_bytes, take_number, then, then_number, numeral_with}
use Rattle.lexer.specs.Bytes.{ends_run, is_letter}
use Rattle.lexer.specs.Decimal.{decimal_of}
use Rattle.lexer.specs.Scan.{all_bytes}
use Rattle.lexer.proofs.Scanned.{close_token, end_token, feed_token, left_next, left_past, open_token, stops_at, token_space}
use Rattle.lexer.proofs.Spelled.{number_token, word_token}
use Rattle.writer.specs.Canonical.{followed}
use Rattle.syntax.specs.declared.Numeral.{Numeral}

-- what was due was there, and this is left past it
pub record Goes (text rest : List ℕ) (passed : Result ℕ Refusal) : Type 0 where
  pub end : ℕ
  pub to : passed ≡ Ok end
  pub left : drop end text ≡ rest

-- a number was due, and this one was there
pub record Takes (text rest : List ℕ) (value : ℕ) (taken : Result Numeral Refusal) : Type 0 where
  pub start : ℕ
  pub end : ℕ
  pub is : taken ≡ Ok (numeral_with value start end)
  pub left : drop end text ≡ rest

-- a word is the same as itself
same_self : (word : List ℕ) → same_bytes word word ≡ true
unfolding same_bytes
same_self [] = refl
same_self (byte ∷ word) = rw (eq-eqb byte byte refl, same_self word)

module _ (text : List ℕ) (at : ℕ) where
  pub open_goes : (rest : List ℕ) → drop at text ≡ 40 ∷ rest → Goes text rest (pass_open text at)
  unfolding pass_open
  open_goes rest left = record { end = at + 1; to = rw (open_token text at rest left); left = left_next text at 40 rest left }

  pub close_goes : (rest : List ℕ) → drop at text ≡ 41 ∷ rest → Goes text rest (pass_close text at)
  unfolding pass_close
  close_goes rest left = record { end = at + 1; to = rw (close_token text at rest left); left = left_next text at 41 rest left }

  -- a line ends before the LF that the next one follows, or with the text
  pub line_end_goes : (more : List (List ℕ)) → drop at text ≡ followed more → Goes text (followed more) (pass_line_end text at)
  unfolding pass_line_end followed bytes_of
  line_end_goes [] left = record { end = at; to = rw (end_token text at left); left = left }
  line_end_goes (line ∷ more) left = record { end = at; to = rw (feed_token text at (line ++ followed more) left); left = left }

  -- the bytes of the word that is left, compared with another
  pub word_compared :
      (word rest other : List ℕ) → drop at text ≡ word ++ rest → is_word text at (at + length word) other ≡ same_bytes word other
  unfolding is_word part
  word_compared word rest other left =
      let long : at + length word - at ≡ length word = omega arith in
      rw (long, left, take-append_seam word rest)

  pub word_goes :
      (word rest : List ℕ)
      → drop at text ≡ word ++ rest
      → 0 < length word
      → all_bytes is_letter word ≡ true
      → stops_at ends_run rest ≡ true
      → Goes text rest (pass_word text word at)
  unfolding pass_word
  word_goes word rest left some letters ends =
      record {
        end = at + length word;
        to = rw (word_token text at word rest left some letters ends, word_compared word rest word left, same_self word);
        left = left_past text at word rest left;
      }

  -- a number after a space
  pub number_takes :
      (low high number : ℕ) (rest : List ℕ)
      → drop at text ≡ 32 ∷ (decimal_of number ++ rest)
      → low ≤ number
      → number ≤ high
      → high < 10_000_000_000
      → stops_at ends_run rest ≡ true
      → Takes text rest number (take_number text low high at)
  unfolding take_number
  number_takes low high number rest left least most small ends =
      let next : drop (at + 1) text ≡ decimal_of number ++ rest = left_next text at 32 _ left in
      record {
        start = at + 1;
        end = at + 1 + length (decimal_of number);
        is =
            rw (
              token_space text at _ left ∙ number_token text (at + 1) number rest next (omega arith) ends,
              le-leb low number least,
              le-leb number high most,
            );
        left = left_past text (at + 1) (decimal_of number) rest next;
      }

-- ---- going on from what was there

pub then_goes :
    {A : Type 0} {text rest : List ℕ} {passed : Result ℕ Refusal} (due : Goes text rest passed) (refused : Refusal → A) (go : ℕ → A)
    → then passed refused go ≡ go due.end
then_goes due refused go = ap (λ (passed : Result ℕ Refusal). then passed refused go) due.to

pub then_takes :
    {A : Type 0} {text rest : List ℕ} {value : ℕ} {taken : Result Numeral Refusal} (due : Takes text rest value taken) (refused : Refusal → A) (go : ℕ → ℕ → ℕ → A)
    → then_number taken refused go ≡ go value due.start due.end
then_takes due refused go = ap (λ (taken : Result Numeral Refusal). then_number taken refused go) due.is

-- ---- what stands in brackets of its own

module _ (text : List ℕ) (at : ℕ) (word rest : List ℕ) (some : 0 < length word) (letters : all_bytes is_letter word ≡ true) where
  pub head_goes : drop at text ≡ 40 ∷ word ++ rest → stops_at ends_run rest ≡ true → Goes text rest (pass_head text word at)
  unfolding pass_head
  head_goes left ends =
      let opened = open_goes text at (word ++ rest) left in
      let worded = word_goes text opened.end word rest opened.left some letters ends in
      record { end = worded.end; to = then_goes opened Err (pass_word text word) ∙ worded.to; left = worded.left }

pub bracketed_takes :
    (text : List ℕ) (at : ℕ) (word : List ℕ) (low high number : ℕ) (rest : List ℕ)
    → 0 < length word
    → all_bytes is_letter word ≡ true
    → drop at text ≡ 40 ∷ word ++ 32 ∷ (decimal_of number ++ 41 ∷ rest)
    → low ≤ number
    → number ≤ high
    → high < 10_000_000_000
    → Takes text rest number (bracketed_number text word low high at)
unfolding bracketed_number
bracketed_takes text at word low high number rest some letters left least most small =
    let worded = head_goes text at word _ some letters left refl in
    let taken = number_takes text worded.end low high number (41 ∷ rest) worded.left least most small refl in
    let closed = close_goes text taken.end rest taken.left in
    record {
      start = taken.start;
      end = closed.end;
      is = then_goes worded Err _ ∙ then_takes taken Err _ ∙ then_goes closed Err _;
      left = closed.left;
    }
