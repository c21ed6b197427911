-- How much of a text a token takes: a bracket a byte, and a number all digits of its decimal form, past a space where a run ended before it; and that a
-- word and a number end where a run is over. Assumes nothing.
use Prim.Native.Nat.{ℕ, ◌+◌, ◌-◌, ◌≤◌, ◌<◌}
use native.Mathlib.Omega.{arith}
use mathlib.Core.Bool.{true, false}
use mathlib.Core.List.{List}
use mathlib.Core.Path.{◌≡◌}
use lib.Dec.{leb, ltb}
use lib.ListN.{get_or, length}
use Rattle.lists.specs.Part.{part}
use Rattle.lists.proofs.Parts.{part_limit}
use Rattle.lexer.specs.declared.Token.{Token}
use Rattle.lexer.specs.declared.Token.TheVariants.{LineEnd, Open, Close, Word, Number, LongNumber, Other}
use Rattle.lexer.specs.Bytes.{ends_run, is_close, is_digit, is_letter, is_line_feed, is_no_space, is_open}
use Rattle.lexer.specs.Decimal.{decimal_of}
use Rattle.lexer.specs.Limits.{most_digits}
use Rattle.lexer.specs.Scan.{all_bytes, scan_of}
use Rattle.lexer.specs.Tokens.{decimal_value, digits_token, longest_run, number_kind, run_token, token_at, token_end, token_from}
use Rattle.lexer.specs.Tokens.{token_kind, token_start, token_value, word_kind}
use Rattle.lexer.proofs.Reached.{cond_holds, some_byte}
use Rattle.lexer.proofs.Scanning.{scan_least}
use Rattle.syntax.proofs.Choices.{same_or_not}
use Rattle.shortest.proofs.Numbers.{digits_enough}
use Rattle.shortest.proofs.Runs.{RunOver, run_ends, run_stays}

-- ---- a bracket

pub bracket_long : (token : Token) → 0 < token_kind token → token_kind token < word_kind → token_start token < token_end token
bracket_long (LineEnd at) some few = omega arith
bracket_long (Open at) some few = omega arith
bracket_long (Close at) some few = omega arith
bracket_long (Word start end) some few = omega arith
bracket_long (Number start end value) some few = omega arith
bracket_long (LongNumber start end) some few = omega arith
bracket_long (Other start end) some few = omega arith

-- ---- a run

-- a number that is read from an offset: it does not touch a run that ended there, and has as many digits as its decimal form
pub record Digits (text : List ℕ) (at start end value : ℕ) : Type 0 where
  pub apart : RunOver text at → at < start
  pub enough : start + length (decimal_of value) ≤ end

-- a token that is read from an offset
pub record Spans (text : List ℕ) (at : ℕ) (token : Token) : Type 0 where
  pub over : word_kind ≤ token_kind token → RunOver text (token_end token)
  pub digits : token_kind token ≡ number_kind → Digits text at (token_start token) (token_end token) (token_value token)

module _ (text : List ℕ) (at start : ℕ) (past : at ≤ start) where
  abbrev end : ℕ
  end = scan_of ends_run text start

  abbrev run : List ℕ
  run = part start (end - start) text

  no_run : (token : Token) → token_kind token < word_kind → Spans text at token
  no_run token few = record { over = λ is-run. absurd (omega arith); digits = λ is_number. absurd (omega arith) }

  no_number : (token : Token) → RunOver text (token_end token) → (token_kind token ≡ number_kind → ⊥) → Spans text at token
  no_number token over other = record { over = λ is-run. over; digits = λ is_number. absurd (other is_number) }

  number_digits : all_bytes is_letter run ≡ false → all_bytes is_digit run ≡ true → Digits text at start end (decimal_value run)
  number_digits no_word digits =
      let some = some_byte run no_word in
      let long : length run ≤ end - start = part_limit start (end - start) text in
      record {
        apart = λ over. same_or_not at start
            (λ same. absurd (omega (arith, run_stays text start (rw (← same) over))))
            (λ differ. omega arith);
        enough = omega (arith, digits_enough run some digits);
      }

  run_spans : Spans text at (longest_run text start)
  unfolding longest_run run_token digits_token
  run_spans =
      let P = Spans text at in
      let ends = run_ends text start in
      cond_holds P (all_bytes is_letter run) (Word start end) _ (λ _. no_number (Word start end) ends (λ same. omega arith))
      (λ no_word. cond_holds P (all_bytes is_digit run) (digits_token run start end) (Other start end)
      (λ digits. cond_holds P (leb (length run) most_digits) (Number start end (decimal_value run)) (LongNumber start end)
      (λ _. record { over = λ is-run. ends; digits = λ is_number. number_digits no_word digits })
      (λ _. no_number (LongNumber start end) ends (λ same. omega arith)))
      (λ _. no_number (Other start end) ends (λ same. omega arith)))

  from_spans : Spans text at (token_from text start)
  unfolding token_from
  from_spans =
      let P = Spans text at in
      let byte = get_or text start 0 in
      cond_holds P (ltb start (length text)) _ (LineEnd start)
      (λ _. cond_holds P (is_line_feed byte) (LineEnd start) _ (λ _. no_run (LineEnd start) (omega arith))
      (λ _. cond_holds P (is_open byte) (Open start) _ (λ _. no_run (Open start) (omega arith))
      (λ _. cond_holds P (is_close byte) (Close start) (longest_run text start) (λ _. no_run (Close start) (omega arith))
      (λ _. run_spans))))
      (λ _. no_run (LineEnd start) (omega arith))

pub token_spans : (text : List ℕ) (at : ℕ) → Spans text at (token_at text at)
unfolding token_at
token_spans text at = from_spans text at (scan_of is_no_space text at) (scan_least is_no_space text at)
