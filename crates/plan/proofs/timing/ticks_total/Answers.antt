-- `plan::timing::ticks_total` meets its contract. Assumes nothing.
use mathlib.Core.Path.{ap}
use Prim.Native.Nat.{◌*◌, ◌≤◌, ℕ}
use native.Mathlib.Nat.{mul-le-mul}
use native.Mathlib.Omega.{arith}
use Rattle.plan.specs.Windows.{ticks_total}
use Rattle.plan.proofs.Windows.{padded_most}
use Rattle.plan.proofs.timing.ticks_total.Goals as goal

pub overflow_mul-result : goal.overflow_mul-result
overflow_mul-result c =
    let start = c in
    let frame : c.padded_lengths-frame.result ≤ 2_000_000 * start.args.plan.windows =
    rw c.padded_lengths-frame.ensures (padded_most start.args.plan start.args.plan.windows start.requires.2 (λ slot below. start.requires.3 slot (omega (arith, start.requires)))) in
    let most : start.args.plan.run * c.padded_lengths-frame.result ≤ 1_000 * 64_000_000 =
    mul-le-mul {m₂ = 64_000_000} start.requires.0 (omega (arith, start.requires)) in
    omega arith

pub returns : goal.returns
unfolding ticks_total
returns c = ap (λ (n : ℕ). c.args.plan.run * n) c.padded_lengths-frame.ensures
