-- Every step of a run is an op or a switch: the steps that a run answers are the ops that it ran and the windows that it completed. Assumes nothing.
use Prim.Native.Nat.{ℕ, zero, suc, ◌+◌}
use mathlib.Core.Bool.{true, false, false≢true}
use mathlib.Core.List.{List}
use mathlib.Core.Path.{◌≡◌, sym, ◌∙◌}
use native.Mathlib.Omega.{arith}
use lib.ListN.{get_or, length, length-set, set}
use lib.Seq.{get_or-set_other, get_or-set_same}
use Rattle.plan.specs.declared.Plan.{Plan}
use Rattle.plan.specs.Limits.{most_domains}
use Rattle.plan.specs.Validity.{plan_valid}
use Rattle.plan.proofs.Sums.{sum_larger}
use Rattle.plan.proofs.Windows.{domains_most, owner_declared}
use Rattle.script.specs.declared.Op.{Op}
use Rattle.state.specs.World.{World, ended_of, position_at, running_of}
use Rattle.machine.specs.Steps.{op_step_by, op_step_of, run_by, run_of, step_of}
use Rattle.machine.specs.Switch.{switch_by, switch_of}
use Rattle.machine.proofs.Invariant.{step_cases}
use Rattle.machine.proofs.Runs.{by_end}
use Rattle.reachable.specs.StepCounts.{ops_run}

-- how far a run has come: its ops and its completed windows
abbrev pub progress_of : World → ℕ
progress_of world = ops_run world + world.state.windows

-- a world has come some steps further than another, and still has eight positions
pub record Further (world : World) (steps : ℕ) (next : World) : Type 0 where
  pub eight : length next.state.positions ≡ most_domains
  pub far : progress_of next ≡ progress_of world + steps

module _ (plan : Plan) (scripts : List ℕ) (quota : ℕ) (possible : plan_valid plan ≡ true) where
  after_switch : (world : World) → length world.state.positions ≡ most_domains → Further world 1 (switch_of plan world)
  unfolding switch_by
  after_switch world eight = record { eight = eight; far = omega arith }

  after_op : (world : World) (op : Op) → length world.state.positions ≡ most_domains
      → Further world 1 (op_step_of plan quota (running_of plan world.state) op world)
  unfolding op_step_by
  after_op world op eight =
      let running = running_of plan world.state in
      let positions = world.state.positions in
      let next = get_or positions running 0 + 1 in
      let declared = owner_declared plan world.state.windows possible in
      let few = domains_most plan possible in
      let grown =
      sum_larger (position_at world.state) (λ domain. get_or (set positions running next) domain 0) running 1 most_domains (omega arith)
      (λ other differs. get_or-set_other positions running other next 0 differs)
      (get_or-set_same positions running next 0 (omega arith)) in
      record { eight = length-set positions running next ∙ eight; far = omega arith }

  -- a step of a run that has not ended goes one further
  step_further : (world : World) → length world.state.positions ≡ most_domains → ended_of plan world.state ≡ false
      → Further world 1 (step_of plan scripts quota world)
  step_further world eight running =
      step_cases _ plan scripts quota world (Further world 1)
      (λ ended. absurd (false≢true (sym running ∙ ended)))
      (λ in_a_window. after_switch world eight)
      (λ op begins. after_op world op eight)

  -- a run goes as far as the steps that it answers
  pub run_further : (limit : ℕ) (world : World) → length world.state.positions ≡ most_domains
      → Further world (run_of plan scripts quota limit world).done (run_of plan scripts quota limit world).world
  unfolding run_by
  run_further zero world eight = record { eight = eight; far = omega arith }
  run_further (suc limit) world eight =
      by_end _ plan scripts quota (λ ran. Further world ran.done ran.world) limit world
      (λ ended. record { eight = eight; far = omega arith })
      (λ running.
      let one = step_further world eight running in
      let rest = run_further limit (step_of plan scripts quota world) one.eight in
      let first = one.far in
      let others = rest.far in
      record { eight = rest.eight; far = omega arith })
