-- What contracts ask before numbers are added up, beside document 02: that there is a latest finish
-- to be told, and that a script's parts fit the ops that they go into. Assumes nothing.
use Rattle.std.specs.Prelude.{ℕ, ◌+◌, ◌≤◌, true, ◌≡◌}
use Rattle.plan.specs.declared.Plan.{Plan}
use Rattle.plan.specs.Validity.{plan_valid}
use Rattle.script.specs.Limits.{most_ops, most_ticks}
use Rattle.cache.specs.Lines.{most_line}
use Rattle.latest.specs.declared.LateScript.{LateScript}
use Rattle.latest.specs.Answer.{domain_fits}
use Rattle.latest.specs.Script.{all_messages}

-- nothing of a plan and a domain is refused
abbrev pub Fitting : Plan → ℕ → Type 0
Fitting plan domain = (plan_valid plan ≡ true) × (domain_fits plan domain ≡ true)

-- the parts of a script: its lines and its ticks are those of ops, and its counts are small enough
-- to be added up
pub record PartsBounded (script : LateScript) : Type 0 where
  pub opening_most : script.opening ≤ all_messages
  pub lines_most : script.line + script.writes ≤ most_line
  pub waits_most : script.waits ≤ most_ops
  pub rest_most : script.rest ≤ most_ticks
