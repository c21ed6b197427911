-- How large the parts of a bound can be, and the bound. Assumes nothing.
use Prim.Native.Nat.{ℕ, ◌*◌, ◌≤◌}
use mathlib.Core.List.{List}
use native.Mathlib.Nat.{mul-le-mul}
use native.Mathlib.Omega.{arith}
use Rattle.plan.specs.Limits.{most_domains, most_run, most_windows}
use Rattle.plan.specs.Sums.{sum_to}
use Rattle.plan.specs.Windows.{windows_total}
use Rattle.plan.proofs.Sums.{sum_most}
use Rattle.plan.proofs.ValidPlans.{counts}
use Rattle.script.specs.Limits.{most_ops}
use Rattle.script.specs.ScriptEnd.{stored_ops}
use Rattle.script.proofs.ScriptEnd.{ends_at}
use Rattle.bound.specs.Bound.{ops_stored, step_bound}
use Rattle.bound.specs.Theorems.{BoundsBounded}

-- the scripts of the first domains have at most 256 ops each
pub ops_most : (scripts : List ℕ) (domains : ℕ) → sum_to (stored_ops scripts) domains ≤ most_ops * domains
ops_most scripts domains = sum_most (stored_ops scripts) most_ops domains (λ domain below. (ends_at scripts domain).within)

-- a valid plan has at most 32 windows 1,000 times
pub bounded : BoundsBounded
unfolding step_bound ops_stored windows_total
bounded plan scripts possible =
    let count = counts plan possible in
    let ops = ops_most scripts most_domains in
    let switches : plan.run * plan.windows ≤ most_run * most_windows = mul-le-mul count.run_most count.windows_most in
    omega arith
