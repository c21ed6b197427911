-- Document 01, "The plan text": the bytes of a plan text by their part in it, each beside the
-- character that it is in ASCII. Assumes nothing.
use Rattle.std.specs.Prelude.{ℕ, Bool, not, ◌&&◌, ◌||◌, eqb, leb}

-- LF
abbrev pub line_feed : ℕ
line_feed = 10

-- ' '
abbrev pub space : ℕ
space = 32

-- '('
abbrev pub open_bracket : ℕ
open_bracket = 40

-- ')'
abbrev pub close_bracket : ℕ
close_bracket = 41

-- '0' and '9'
abbrev pub zero_digit : ℕ
zero_digit = 48

abbrev pub nine_digit : ℕ
nine_digit = 57

-- 'a' and 'z'
abbrev pub first_letter : ℕ
first_letter = 97

abbrev pub last_letter : ℕ
last_letter = 122

-- a line ends with LF
abbrev pub is_line_feed : ℕ → Bool
is_line_feed byte = eqb byte line_feed

-- spaces separate
abbrev pub is_space : ℕ → Bool
is_space byte = eqb byte space

-- a bracket that opens
abbrev pub is_open : ℕ → Bool
is_open byte = eqb byte open_bracket

-- a bracket that closes
abbrev pub is_close : ℕ → Bool
is_close byte = eqb byte close_bracket

-- words are of a to z
abbrev pub is_letter : ℕ → Bool
is_letter byte = leb first_letter byte && leb byte last_letter

-- numbers are of 0 to 9
abbrev pub is_digit : ℕ → Bool
is_digit byte = leb zero_digit byte && leb byte nine_digit

-- what ends a run: a bracket, a space or LF
abbrev pub ends_run : ℕ → Bool
ends_run byte = is_space byte || is_line_feed byte || is_open byte || is_close byte

-- where spaces that are passed over end
abbrev pub is_no_space : ℕ → Bool
is_no_space byte = not (is_space byte)

-- where the letters of a word end, and the digits of a number
abbrev pub is_no_letter : ℕ → Bool
is_no_letter byte = not (is_letter byte)

abbrev pub is_no_digit : ℕ → Bool
is_no_digit byte = not (is_digit byte)
