-- Document 01, "The plan text": the tokens of a line, each a bracket by itself or as many other
-- bytes as stand together. Assumes nothing.
use Rattle.std.specs.Prelude.{ℕ, ◌+◌, ◌*◌, ◌-◌, cond, List, [], ◌∷◌, leb, ltb, length, get_or}
use Rattle.lists.specs.Part.{part}
use Rattle.lexer.specs.declared.Token.{Token}
use Rattle.lexer.specs.declared.Token.TheVariants.{LineEnd, Open, Close, Word, Number}
use Rattle.lexer.specs.declared.Token.TheVariants.{LongNumber, Other}
use Rattle.lexer.specs.Bytes.{ends_run, is_close, is_digit, is_letter, is_line_feed, is_no_space}
use Rattle.lexer.specs.Bytes.{is_open, zero_digit}
use Rattle.lexer.specs.Limits.{most_digits}
use Rattle.lexer.specs.Scan.{all_bytes, scan_of}

-- the number that a run of digits writes, after one that stands before it
unfoldable pub value_after : ℕ → List ℕ → ℕ
value_after before [] = before
value_after before (digit ∷ rest) = value_after (before * 10 + (digit - zero_digit)) rest

-- the number that a run of digits writes
unfoldable pub decimal_value : List ℕ → ℕ
decimal_value digits = value_after 0 digits

-- a run of digits: a number of at most 10 digits, leading zeros allowed, or one of more
unfoldable pub digits_token : List ℕ → ℕ → ℕ → Token
digits_token run start end =
    cond (leb (length run) most_digits) (Number start end (decimal_value run)) (LongNumber start end)

-- a run of bytes: a word of a to z, a number, or neither
unfoldable pub run_token : List ℕ → ℕ → ℕ → Token
run_token run start end =
    cond (all_bytes is_letter run) (Word start end)
    (cond (all_bytes is_digit run) (digits_token run start end) (Other start end))

-- the run from an offset on, up to the first byte that ends one
unfoldable pub longest_run : List ℕ → ℕ → Token
longest_run text start =
    let end = scan_of ends_run text start in
    run_token (part start (end - start) text) start end

-- the token whose first byte stands at an offset that holds no space
unfoldable pub token_from : List ℕ → ℕ → Token
token_from text start =
    cond (ltb start (length text))
    (cond (is_line_feed (get_or text start 0)) (LineEnd start)
    (cond (is_open (get_or text start 0)) (Open start)
    (cond (is_close (get_or text start 0)) (Close start) (longest_run text start))))
    (LineEnd start)

-- the next token of the line from an offset on: spaces are passed over
unfoldable pub token_at : List ℕ → ℕ → Token
token_at text at = token_from text (scan_of is_no_space text at)

-- ---- what a token holds

-- its kind, a number for each constructor, in the order of the declaration
abbrev pub line_end_kind : ℕ
line_end_kind = 0

abbrev pub open_kind : ℕ
open_kind = 1

abbrev pub close_kind : ℕ
close_kind = 2

abbrev pub word_kind : ℕ
word_kind = 3

abbrev pub number_kind : ℕ
number_kind = 4

abbrev pub long_number_kind : ℕ
long_number_kind = 5

abbrev pub other_kind : ℕ
other_kind = 6

abbrev pub token_kind : Token → ℕ
token_kind (LineEnd at) = line_end_kind
token_kind (Open at) = open_kind
token_kind (Close at) = close_kind
token_kind (Word start end) = word_kind
token_kind (Number start end value) = number_kind
token_kind (LongNumber start end) = long_number_kind
token_kind (Other start end) = other_kind

-- the offset of its first byte, or of the line's end
abbrev pub token_start : Token → ℕ
token_start (LineEnd at) = at
token_start (Open at) = at
token_start (Close at) = at
token_start (Word start end) = start
token_start (Number start end value) = start
token_start (LongNumber start end) = start
token_start (Other start end) = start

-- the offset past its last byte; the line's end itself
abbrev pub token_end : Token → ℕ
token_end (LineEnd at) = at
token_end (Open at) = at + 1
token_end (Close at) = at + 1
token_end (Word start end) = end
token_end (Number start end value) = end
token_end (LongNumber start end) = end
token_end (Other start end) = end

-- the value of a number; what is no number has none, and 0 stands for that
abbrev pub token_value : Token → ℕ
token_value (LineEnd at) = 0
token_value (Open at) = 0
token_value (Close at) = 0
token_value (Word start end) = 0
token_value (Number start end value) = value
token_value (LongNumber start end) = 0
token_value (Other start end) = 0
