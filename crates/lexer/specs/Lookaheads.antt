-- Document 01, "The plan text": what stands next in a line by its first byte, which is enough where
-- a bracket or a line's end is due; and a run of bytes where only a word or only a number counts.
-- Assumes nothing.
use Rattle.std.specs.Prelude.{ℕ, cond, ◌||◌, List, eqb, ltb, length, get_or}
use Rattle.lexer.specs.declared.Lookahead.{Lookahead}
use Rattle.lexer.specs.declared.Lookahead.TheVariants.{LineEnd, Open, Close, Run}
use Rattle.lexer.specs.declared.Token.{Token}
use Rattle.lexer.specs.declared.Token.TheVariants.{Other}
use Rattle.lexer.specs.Bytes.{is_close, is_line_feed, is_no_space, is_open}
use Rattle.lexer.specs.Scan.{scan_of}
use Rattle.lexer.specs.Tokens.{long_number_kind, number_kind, token_kind, token_start}
use Rattle.lexer.specs.Tokens.{word_kind}

-- what stands at an offset that holds no space
unfoldable pub lookahead_from : List ℕ → ℕ → Lookahead
lookahead_from text start =
    cond (ltb start (length text))
    (cond (is_line_feed (get_or text start 0)) (LineEnd start)
    (cond (is_open (get_or text start 0)) (Open start)
    (cond (is_close (get_or text start 0)) (Close start) (Run start))))
    (LineEnd start)

-- what stands next in the line from an offset on: spaces are passed over
unfoldable pub lookahead_at : List ℕ → ℕ → Lookahead
lookahead_at text at = lookahead_from text (scan_of is_no_space text at)

-- the offset of its first byte, or of the line's end
abbrev pub lookahead_start : Lookahead → ℕ
lookahead_start (LineEnd at) = at
lookahead_start (Open at) = at
lookahead_start (Close at) = at
lookahead_start (Run at) = at

-- ---- a run where one kind is due

-- where a word is due, a run that is none counts as neither word nor number; nobody asks for its
-- end, which is not looked for
unfoldable pub as_word : Token → Token
as_word token =
    cond (eqb (token_kind token) word_kind) token (Other (token_start token) (token_start token))

-- where a number is due, a run that is none counts as neither, too
unfoldable pub as_number : Token → Token
as_number token =
    cond (eqb (token_kind token) number_kind || eqb (token_kind token) long_number_kind) token
    (Other (token_start token) (token_start token))
