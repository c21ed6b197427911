-- Document 02, E3: the stored ops of a script, which are those before its end. Assumes nothing.
use Rattle.std.specs.Prelude.{ℕ, zero, suc, ◌+◌, List, Some, None}
use Rattle.script.specs.Fetch.{fetch_of}
use Rattle.script.specs.Limits.{most_ops}

-- how many ops stand in a row from a position of a domain's script on, of the next `count` positions:
-- up to the first at which none stands
unfoldable pub ops_in_row : List ℕ → ℕ → ℕ → ℕ → ℕ
ops_in_row scripts domain zero position = 0
ops_in_row scripts domain (suc count) position =
    elim (fetch_of scripts domain position) [
      | Some op ↦ ops_in_row scripts domain count (position + 1) + 1
      | None ↦ 0
    ]

-- the ops of a script: those before the first number that no op gives, and all where there is none
unfoldable pub stored_ops : List ℕ → ℕ → ℕ
stored_ops scripts domain = ops_in_row scripts domain most_ops 0
