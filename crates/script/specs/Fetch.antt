-- Document 01, "The plan text": what a stored number stands for, and how a script ends: at a number that
-- no op gives, and at the latest past its last entry. Assumes nothing.
use Rattle.std.specs.Prelude.{ℕ, ◌+◌, ◌*◌, ◌/◌, ◌%◌, cond, ◌&&◌, List, eqb, leb, ltb, get_or, Option, Some, None}
use Rattle.script.specs.declared.Op.TheVariants.{Read, Write, Send, Receive, Compute}
use Rattle.script.specs.Limits.{last_domain, least_ticks, most_ops, most_ticks}
use Rattle.script.specs.Stored.{kind_unit, other_unit}
use Rattle.script.specs.declared.Op.{Op}

-- the kind that a stored number holds
abbrev pub kind_part : ℕ → ℕ
kind_part stored = stored / kind_unit

-- the other domain that it holds
abbrev pub other_part : ℕ → ℕ
other_part stored = stored / other_unit % (kind_unit / other_unit)

-- the value that it holds
abbrev pub value_part : ℕ → ℕ
value_part stored = stored % other_unit

-- the op that three parts give, each kind within its limits: a read, a write or a compute has no other
-- domain, a receive no value. The value part is never over what a read, a write or a send may have.
-- Every other number ends the script.
unfoldable pub op_of : ℕ → ℕ → ℕ → Option Op
op_of kind other value =
    cond (eqb kind 1 && eqb other 0) (Some (Read value))
    (cond (eqb kind 2 && eqb other 0) (Some (Write value))
    (cond (eqb kind 3 && leb other last_domain) (Some (Send other value))
    (cond (eqb kind 4 && leb other last_domain && eqb value 0) (Some (Receive other))
    (cond (eqb kind 5 && eqb other 0 && leb least_ticks value && leb value most_ticks)
    (Some (Compute value)) None))))

-- what a stored number stands for
unfoldable pub decode_of : ℕ → Option Op
decode_of stored = op_of (kind_part stored) (other_part stored) (value_part stored)

-- what stands at a position of a domain's script: the number there in its part of the store, and past the
-- part the end
unfoldable pub fetch_of : List ℕ → ℕ → ℕ → Option Op
fetch_of scripts domain position =
    cond (ltb position most_ops) (decode_of (get_or scripts (most_ops * domain + position) 0)) None
