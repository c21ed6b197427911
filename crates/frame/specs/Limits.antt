-- Document 02, E1: the limit of a weight. The number of windows has a plan's own limits
-- (plan/specs/Limits.antt). Assumes nothing.
use Rattle.std.specs.Prelude.{ℕ}

-- the greatest weight of a domain; above it 15
abbrev pub most_weight : ℕ
most_weight = 1_000
