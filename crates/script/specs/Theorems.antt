-- Document 02, E3: what the number of a script's ops is, said without counting. Assumes nothing.
use Rattle.std.specs.Prelude.{ℕ, ◌≤◌, ◌<◌, List, ◌≡◌, None}
use Rattle.script.specs.ScriptEnd.{stored_ops}
use Rattle.script.specs.Fetch.{fetch_of}
use Rattle.script.specs.Limits.{most_ops}

-- a script ends at a position: an op stands at each before it, and none there
pub record EndsAt (scripts : List ℕ) (domain end : ℕ) : Type 0 where
  pub within : end ≤ most_ops
  pub before : (position : ℕ) → position < end → fetch_of scripts domain position ≡ None → ⊥
  pub there : fetch_of scripts domain end ≡ None

-- every script has as many ops as positions before its end, and ends at no other
pub record ScriptsEnd : Type 0 where
  pub ends : (scripts : List ℕ) (domain : ℕ) → EndsAt scripts domain (stored_ops scripts domain)
  pub once : (scripts : List ℕ) (domain end : ℕ) → EndsAt scripts domain end → end ≡ stored_ops scripts domain
