-- Document 01, "What an op costs" and "The plan text": the limits of an op's numbers, the domain numbers,
-- and how many ops a script has. Each is said here alone. Assumes nothing.
use Rattle.std.specs.Prelude.{ℕ, ◌+◌, ◌*◌, ◌≤◌}
use Rattle.script.specs.declared.Op.{Op}
use Rattle.script.specs.declared.Op.TheVariants.{Read, Write, Send, Receive, Compute}

-- the highest domain number; the lowest is 0
abbrev pub last_domain : ℕ
last_domain = 7

-- the greatest n of a read or a write; the least is 0
abbrev pub most_number : ℕ
most_number = 65_535

-- the greatest w of a send; the least is 0
abbrev pub most_word : ℕ
most_word = 65_535

-- the least t of a compute
abbrev pub least_ticks : ℕ
least_ticks = 1

-- the greatest t of a compute
abbrev pub most_ticks : ℕ
most_ticks = 200

-- the most ops of one domain's script, and so its entries in the store
abbrev pub most_ops : ℕ
most_ops = 256

-- how many numbers the script store has: an entry for each op of each domain that there can be
abbrev pub scripts_length : ℕ
scripts_length = most_ops * (last_domain + 1)

-- an op's numbers are within their limits
unfoldable pub OpWithinLimits : Op → Type 0
OpWithinLimits (Read line) = line ≤ most_number
OpWithinLimits (Write line) = line ≤ most_number
OpWithinLimits (Send recipient word) = (recipient ≤ last_domain) × (word ≤ most_word)
OpWithinLimits (Receive sender) = sender ≤ last_domain
OpWithinLimits (Compute ticks) = (least_ticks ≤ ticks) × (ticks ≤ most_ticks)
