-- Document 02, E4: what a script store holds beside its ops. Reading a text leaves a 0 at every index that
-- no op of a declared domain stands at, so a store with another number there is one that no text gives.
-- Assumes nothing.
use Rattle.std.specs.Prelude.{ℕ, ◌+◌, ◌*◌, Bool, cond, ◌||◌, List, eqb, ltb, get_or}
use Rattle.plan.specs.declared.Plan.{Plan}
use Rattle.plan.specs.Limits.{most_domains}
use Rattle.plan.specs.Sums.{all_below}
use Rattle.script.specs.Limits.{most_ops}
use Rattle.script.specs.ScriptEnd.{stored_ops}

-- how many ops of a domain a text can give: those before its script's end, and none where it is not among the
-- `declared` domains
unfoldable pub written_ops : ℕ → List ℕ → ℕ → ℕ
written_ops declared scripts domain = cond (ltb domain declared) (stored_ops scripts domain) 0

-- at a position of a domain's script stands one of these ops, or 0
unfoldable pub op_or_zero : ℕ → List ℕ → ℕ → ℕ → Bool
op_or_zero declared scripts domain position =
    ltb position (written_ops declared scripts domain) || eqb (get_or scripts (most_ops * domain + position) 0) 0

-- so at every position of every domain's part
unfoldable pub ops_alone : Plan → List ℕ → Bool
ops_alone plan scripts =
    all_below (λ domain. all_below (op_or_zero plan.domains scripts domain) most_ops) most_domains
