-- Document 01, "Settled numbers": the sizes of the program *planrun* and of what it prints, each
-- said here alone. Assumes nothing.
use Rattle.std.specs.Prelude.{ℕ, ◌+◌, ◌*◌, ◌/◌}
use Rattle.records.specs.Records.{record_size}

-- the log that it lends, in bytes
abbrev pub planrun_log : ℕ
planrun_log = 16_384

-- the steps that it asks for: the largest limit that a run takes
abbrev pub largest_limit : ℕ
largest_limit = 18_446_744_073_709_551_615

-- the most bytes of a decimal number of 64 bits
abbrev pub most_decimal : ℕ
most_decimal = 20

-- the most bytes of a kind's word
abbrev pub most_kind_word : ℕ
most_kind_word = 6

-- the most bytes of a record's line: 13 besides its word and its three numbers
abbrev pub most_seen_line : ℕ
most_seen_line = 13 + most_kind_word + 3 * most_decimal

-- the most bytes of the last line: 8 besides its two numbers
abbrev pub most_end_line : ℕ
most_end_line = 8 + 2 * most_decimal

-- the most bytes that it prints: a line for each record that its log has room for, and the last
-- line
abbrev pub most_printed : ℕ
most_printed = most_seen_line * (planrun_log / record_size) + most_end_line
