-- Document 01, "The plan text": a domain's *may* list, the recipients to which it has the right to send.
-- Assumes nothing.
use Rattle.std.specs.Prelude.{ℕ, Bool, get_or}
use Rattle.plan.specs.declared.Plan.{Plan}
use Rattle.plan.specs.Colours.{has_bit}

-- the list that a plan keeps for a domain, bit b for recipient b
abbrev pub rights_at : Plan → ℕ → ℕ
rights_at plan domain = get_or plan.rights domain 0

-- the sender's list has the recipient
abbrev pub may_send : Plan → ℕ → ℕ → Bool
may_send plan sender recipient = has_bit (rights_at plan sender) recipient
