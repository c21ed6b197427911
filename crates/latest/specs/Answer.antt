-- Document 02, E6: what is answered to one who asks for the latest finish of a domain (`latest`),
-- and what is left in the buffer that it lent. Assumes nothing.
use Rattle.std.specs.Prelude.{ℕ, Bool, true, cond, ◌&&◌, List, eqb, ltb, get_or, length, Ok, Err, Result}
use Rattle.plan.specs.declared.Plan.{Plan}
use Rattle.plan.specs.Sums.{all_below}
use Rattle.plan.specs.Validity.{plan_valid, within}
use Rattle.script.specs.Limits.{most_ops}
use Rattle.refusal.specs.Checks.{unless}
use Rattle.refusal.specs.declared.Refusal.TheVariants.{ImpossiblePlan, LatestOutOfLimits}
use Rattle.refusal.specs.declared.Refusal.TheVariants.{WrongLength}
use Rattle.latest.specs.Latest.{latest_ticks}
use Rattle.latest.specs.Limits.{least_latest_length, most_latest_length}
use Rattle.latest.specs.Reach.{first_window, owns_window}
use Rattle.latest.specs.Script.{latest_script}
use Rattle.refusal.specs.Verdict.{Verdict}
use Rattle.refusal.specs.declared.Refusal.{Refusal}

-- a declared window is another domain's, or within the limits
unfoldable pub window_fits : Plan → ℕ → ℕ → Bool
window_fits plan domain slot =
    cond (owns_window plan domain slot)
    (within least_latest_length most_latest_length (get_or plan.lengths slot 0)) true

-- a domain that is declared, has a window, and has none outside the limits
unfoldable pub domain_fits : Plan → ℕ → Bool
domain_fits plan domain =
    ltb domain plan.domains
    && ltb (first_window plan domain) plan.windows
    && all_below (window_fits plan domain) plan.windows

-- the refusals: 11 for a buffer of another length, then 12, then 18 with the domain
unfoldable pub latest_verdict : Plan → ℕ → List ℕ → Verdict
latest_verdict plan domain script =
    unless (eqb (length script) most_ops) WrongLength
    (unless (plan_valid plan) ImpossiblePlan
    (unless (domain_fits plan domain) (LatestOutOfLimits domain) (Ok tt)))

-- what is answered, and the buffer after the call
pub record LatestOutcome : Type 0 where
  pub verdict : Verdict
  pub ticks : ℕ
  pub script : List ℕ

-- an answer that is either the ticks or the refusal, with the buffer after the call
abbrev pub latest_with : Result ℕ Refusal → List ℕ → LatestOutcome
latest_with (Ok ticks) script = record { verdict = Ok tt; ticks = ticks; script = script }
latest_with (Err refusal) script = record { verdict = Err refusal; ticks = 0; script = script }

-- the ticks and a script that reaches them; beside a refusal 0 and the buffer as it was
abbrev pub latest_from : Verdict → Plan → ℕ → List ℕ → LatestOutcome
latest_from (Ok tt) plan domain script =
    record {
      verdict = Ok tt;
      ticks = latest_ticks plan domain;
      script = latest_script plan domain;
    }
latest_from (Err refusal) plan domain script =
    record { verdict = Err refusal; ticks = 0; script = script }

-- the answer, for every input
unfoldable pub latest_of : Plan → ℕ → List ℕ → LatestOutcome
latest_of plan domain script = latest_from (latest_verdict plan domain script) plan domain script
