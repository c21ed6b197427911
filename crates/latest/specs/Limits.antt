-- Document 02, E6: how long the windows of a domain must be for its latest finish to be told. Each
-- is said here alone. Assumes nothing.
use Rattle.std.specs.Prelude.{ℕ}

-- the fewest ticks of each of its windows; below it 18
abbrev pub least_latest_length : ℕ
least_latest_length = 4_000

-- the most; above it 18
abbrev pub most_latest_length : ℕ
most_latest_length = 20_000
