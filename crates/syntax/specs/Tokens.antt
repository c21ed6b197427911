-- Document 01, "The plan text": what is due is taken from the next token, or the line is refused.
-- `at` is the offset that is reached. Assumes nothing.
use Rattle.std.specs.Prelude.{ℕ, ◌-◌, Bool, true, false, cond, ◌&&◌, List, [], ◌∷◌, eqb, leb, Result, Ok, Err}
use Rattle.lists.specs.Part.{part}
use Rattle.refusal.specs.declared.Refusal.{Refusal}
use Rattle.refusal.specs.declared.Refusal.TheVariants.{BrokenShape, NumberOutOfLimits}
use Rattle.lexer.specs.declared.Token.{Token}
use Rattle.lexer.specs.Tokens.{close_kind, line_end_kind, long_number_kind, number_kind, open_kind}
use Rattle.lexer.specs.Tokens.{token_at, token_end, token_kind, token_start, token_value, word_kind}
use Rattle.syntax.specs.declared.Numeral.{Numeral}
use Rattle.syntax.specs.declared.Span.{Span}

-- a number and the offsets of its first byte and past it
abbrev pub numeral_with : ℕ → ℕ → ℕ → Numeral
numeral_with value start end = record { value = value; start = start; end = end }

-- the offsets of a word's first byte and past its last
abbrev pub span_with : ℕ → ℕ → Span
span_with start end = record { start = start; end = end }

-- a token of this kind is due, and hands on where it starts and ends; any other breaks the shape:
-- 2, with the token's first byte, or with the line's end where the line stops short
abbrev pub due : {A : Type 0} → ℕ → Token → (Refusal → A) → (ℕ → ℕ → A) → A
due kind token refused go =
    cond (eqb (token_kind token) kind) (go (token_start token) (token_end token))
    (refused (BrokenShape (token_start token)))

-- an opening bracket is due
unfoldable pub pass_open : List ℕ → ℕ → Result ℕ Refusal
pass_open text at = due open_kind (token_at text at) Err λ start end. Ok end

-- a closing bracket is due
unfoldable pub pass_close : List ℕ → ℕ → Result ℕ Refusal
pass_close text at = due close_kind (token_at text at) Err λ start end. Ok end

-- the line's end is due: one form a line
unfoldable pub pass_line_end : List ℕ → ℕ → Result ℕ Refusal
pass_line_end text at = due line_end_kind (token_at text at) Err λ start end. Ok end

-- two runs of bytes are equal
unfoldable pub same_bytes : List ℕ → List ℕ → Bool
same_bytes [] [] = true
same_bytes [] (b ∷ bs) = false
same_bytes (a ∷ as₀) [] = false
same_bytes (a ∷ as₀) (b ∷ bs) = eqb a b && same_bytes as₀ bs

-- the bytes of a text from one offset up to another are this word's
unfoldable pub is_word : List ℕ → ℕ → ℕ → List ℕ → Bool
is_word text start end word = same_bytes (part start (end - start) text) word

-- a word is due, whichever it is: what the code finds first
unfoldable pub word_at : List ℕ → ℕ → Result Span Refusal
word_at text at = due word_kind (token_at text at) Err λ start end. Ok (span_with start end)

-- this word is due
unfoldable pub pass_word : List ℕ → List ℕ → ℕ → Result ℕ Refusal
pass_word text word at =
    due word_kind (token_at text at) Err λ start end.
    cond (is_word text start end word) (Ok end) (Err (BrokenShape start))

-- a number is due, with its limits: 3, with its first byte, where it has over 10 digits or is
-- outside them
abbrev pub number_within : ℕ → ℕ → Token → Result Numeral Refusal
number_within low high token =
    cond (eqb (token_kind token) long_number_kind)
    (Err (NumberOutOfLimits (token_start token)))
    (due number_kind token Err λ start end.
    cond (leb low (token_value token) && leb (token_value token) high)
    (Ok (numeral_with (token_value token) start end))
    (Err (NumberOutOfLimits start)))

unfoldable pub take_number : List ℕ → ℕ → ℕ → ℕ → Result Numeral Refusal
take_number text low high at = number_within low high (token_at text at)

-- going on from what was due, or handing the refusal on
abbrev pub then : {A : Type 0} → Result ℕ Refusal → (Refusal → A) → (ℕ → A) → A
then (Ok at) refused go = go at
then (Err refusal) refused go = refused refusal

-- the same of a number, with its value and both its offsets
abbrev pub then_number : {A : Type 0} → Result Numeral Refusal → (Refusal → A) → (ℕ → ℕ → ℕ → A) → A
then_number (Ok number) refused go = go number.value number.start number.end
then_number (Err refusal) refused go = refused refusal
