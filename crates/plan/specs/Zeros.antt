-- Document 01, "The plan text": the plan that a reading hands out with a refusal. Assumes nothing.
use Rattle.std.specs.Prelude.{ℕ, List, replicate}
use Rattle.plan.specs.declared.Plan.{Plan}
use Rattle.plan.specs.Limits.{most_domains, most_windows}
use Rattle.plan.specs.Parts.{plan_from}

-- every number of it is 0
unfoldable pub no_plan : Plan
no_plan =
    let domains : List ℕ = replicate most_domains 0 in
    let windows : List ℕ = replicate most_windows 0 in
    plan_from 0 0
    (record { count = 0; shares = domains; rights = domains })
    (record { count = 0; owners = windows; lengths = windows }) domains
