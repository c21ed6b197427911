-- Document 01, "The plan text": how many digits a number has. Assumes nothing.
use Rattle.std.specs.Prelude.{ℕ}

-- a number of more digits is refused with 3
abbrev pub most_digits : ℕ
most_digits = 10

-- the most digits of a number of 64 bits, the widest that is written
abbrev pub widest_digits : ℕ
widest_digits = 20
