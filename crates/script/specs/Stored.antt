-- Document 01, "The plan text": the one number that stands for an op in a script store. Assumes nothing.
use Rattle.std.specs.Prelude.{ℕ, ◌+◌, ◌*◌}
use Rattle.script.specs.declared.Op.{Op}
use Rattle.script.specs.declared.Op.TheVariants.{Read, Write, Send, Receive, Compute}

-- what the kind and the other domain count for in a stored number; the value counts for itself
abbrev pub kind_unit : ℕ
kind_unit = 1_048_576

abbrev pub other_unit : ℕ
other_unit = 65_536

-- the number made of three parts: the kind, the other domain and the value
abbrev pub packed : ℕ → ℕ → ℕ → ℕ
packed kind other value = kind * kind_unit + other * other_unit + value

-- the stored number of an op: its kind is its number among the five, and a part that it has no use for
-- is 0
unfoldable pub stored_of : Op → ℕ
stored_of (Read line) = packed 1 0 line
stored_of (Write line) = packed 2 0 line
stored_of (Send recipient word) = packed 3 recipient word
stored_of (Receive sender) = packed 4 sender 0
stored_of (Compute ticks) = packed 5 0 ticks
