-- Every reached state is valid (14). Assumes nothing.
use Prim.Native.Nat.{ℕ, ◌≤◌}
use mathlib.Core.Bool.{true}
use mathlib.Core.Path.{◌≡◌}
use native.Mathlib.Omega.{arith}
use lib.Dec.{ltb}
use borrow.Author.Tests.{eq-eqb, le-leb, ltb-false, ltb-true}
use Rattle.plan.specs.declared.Plan.{Plan}
use Rattle.plan.specs.Limits.{most_domains}
use Rattle.plan.specs.Validity.{plan_valid}
use Rattle.plan.specs.Windows.{windows_total}
use Rattle.plan.proofs.Sums.{below_all}
use Rattle.state.specs.World.{World}
use Rattle.state.specs.StateValidity.{clock_valid, domain_counts_valid, state_valid}
use Rattle.machine.proofs.Schedule.{Scheduled, ended_clock_lem}
use Rattle.lists.proofs.Tests.{both_pass, cases_pass, choice_passes}
use Rattle.reachable.proofs.Counts.{Counted}

-- in a window the clock is within its limits; ended, it is the run's total
clock_valid_lem : (plan : Plan) (world : World) → plan_valid plan ≡ true → Scheduled plan world → clock_valid plan world.state ≡ true
unfolding clock_valid
clock_valid_lem plan world possible scheduled =
    cases_pass (ltb world.state.windows (windows_total plan)) _ _
    (λ test. both_pass _ _ (le-leb _ _ scheduled.started) (le-leb _ _ (scheduled.soon (ltb-true _ _ test))))
    (λ test.
    let past : windows_total plan ≤ world.state.windows = ltb-false _ _ test in
    let all : world.state.windows ≡ windows_total plan = omega arith in
    both_pass _ _ (eq-eqb _ _ all) (eq-eqb _ _ (ended_clock_lem plan world possible scheduled all)))

counts_valid_lem : (plan : Plan) (quota : ℕ) (world : World) → Counted plan quota world → (domain : ℕ)
    → domain_counts_valid plan quota world.state domain ≡ true
unfolding domain_counts_valid
counts_valid_lem plan quota world counted domain =
    choice_passes (ltb domain plan.domains) _ _
    (λ test. both_pass _ _ (le-leb _ _ (counted.position domain)) (le-leb _ _ (counted.records domain)))
    (λ test.
    let past : plan.domains ≤ domain = ltb-false _ _ test in
    both_pass _ _ (eq-eqb _ _ (counted.no_position domain past)) (eq-eqb _ _ (counted.no_records domain past)))

-- a world on schedule and with possible counts has a valid state
pub passes_state : (plan : Plan) (quota : ℕ) (world : World)
    → plan_valid plan ≡ true
    → Scheduled plan world
    → Counted plan quota world
    → state_valid plan quota world.state ≡ true
unfolding state_valid
passes_state plan quota world possible scheduled counted =
    both_pass _ _ (clock_valid_lem plan world possible scheduled) (below_all _ most_domains (λ domain below. counts_valid_lem plan quota world counted domain))
