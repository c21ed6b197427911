-- Every run from a fresh start ends within the bound: no script is run past its end, and no window but those of the plan is completed.
-- Assumes nothing.
use Prim.Native.Nat.{ℕ, zero, suc, ◌+◌, ◌≤◌, ◌<◌}
use mathlib.Core.Bool.{Bool, true, false, false≢true}
use mathlib.Core.List.{List}
use mathlib.Core.Path.{◌≡◌, refl, sym, ap, subst, ◌∙◌}
use native.Mathlib.Numerals.{add-one}
use native.Mathlib.Omega.{arith}
use Rattle.plan.specs.declared.Plan.{Plan}
use Rattle.plan.specs.Limits.{most_domains}
use Rattle.plan.specs.Validity.{plan_valid}
use Rattle.plan.specs.Sums.{sum_to}
use Rattle.plan.specs.Windows.{windows_total}
use Rattle.plan.proofs.Sums.{sum_under}
use Rattle.script.specs.declared.Op.{Op}
use Rattle.script.specs.ScriptEnd.{stored_ops}
use Rattle.script.proofs.ScriptEnd.{op_before_end}
use Rattle.bound.specs.Bound.{ops_stored, step_bound}
use Rattle.state.specs.World.{World, ended_of, fresh_state, position_at, running_of}
use Rattle.machine.specs.Fresh.{fresh_world}
use Rattle.machine.specs.Steps.{op_step_by, op_step_of, run_by, RunEffect, run_of, step_of, steps}
use Rattle.machine.specs.Switch.{switch_by, switch_of}
use Rattle.machine.proofs.Invariant.{Begins, in_window, steps_hold}
use Rattle.machine.proofs.Runs.{by_end}
use Rattle.machine.proofs.Schedule.{scheduled}
use Rattle.reachable.specs.StepCounts.{ops_run}
use Rattle.reachable.proofs.Cells.{cell_holds, cell_zeros, zeros_length}
use Rattle.reachable.proofs.Progress.{progress_of, run_further}

module _ (plan : Plan) (scripts : List ℕ) (quota : ℕ) where
  -- ---- no script is run past its end

  abbrev WithinScripts : World → Type 0
  WithinScripts world = (domain : ℕ) → position_at world.state domain ≤ stored_ops scripts domain

  after_switch : (world : World) → WithinScripts world → world.state.windows < windows_total plan → WithinScripts (switch_of plan world)
  unfolding switch_by
  after_switch world within in_a_window = within

  -- an op stands before the end of its script
  after_op : (world : World) (op : Op) → WithinScripts world → Begins plan scripts quota world op
      → WithinScripts (op_step_of plan quota (running_of plan world.state) op world)
  unfolding op_step_by
  after_op world op within begins domain =
      let running = running_of plan world.state in
      let position = position_at world.state running in
      let before : position + 1 ≤ stored_ops scripts running =
      omega (arith, op_before_end scripts running position op (within running) begins.next) in
      cell_holds (λ n. n ≤ stored_ops scripts domain) world.state.positions running domain (position + 1) (within domain)
      (λ same. subst (λ owner. position + 1 ≤ stored_ops scripts owner) (sym same) before)

  at_start : (log : List ℕ) → WithinScripts (fresh_world log)
  unfolding fresh_world fresh_state
  at_start log domain = omega (arith, cell_zeros most_domains domain)

  within_scripts : (count : ℕ) (log : List ℕ) → WithinScripts (steps plan scripts quota count (fresh_world log))
  within_scripts count log = steps_hold _ plan scripts quota WithinScripts after_switch after_op (fresh_world log) (at_start log) count

  -- ---- a run that has not ended did as many steps as its limit

  pub run_whole : (limit : ℕ) (world : World) → ended_of plan (run_of plan scripts quota limit world).world.state ≡ false
      → (run_of plan scripts quota limit world).done ≡ limit
  unfolding run_by
  run_whole zero world running = refl
  run_whole (suc limit) world running =
      by_end _ plan scripts quota (λ ran. ended_of plan ran.world.state ≡ false → ran.done ≡ suc limit) limit world
      (λ ended running'. absurd (false≢true (sym running' ∙ ended)))
      (λ before running'. ap (λ done. done + 1) (run_whole limit (step_of plan scripts quota world) running') ∙ add-one limit)
      running

-- ---- a run from a fresh start

module _ (plan : Plan) (scripts : List ℕ) (quota : ℕ) (possible : plan_valid plan ≡ true) (limit : ℕ) (log : List ℕ) where
  abbrev ran : RunEffect
  ran = run_of plan scripts quota limit (fresh_world log)

  -- the steps that it answers are the ops that it ran and the windows that it completed
  pub steps_are : ran.done ≡ progress_of ran.world
  unfolding fresh_world fresh_state sum_to
  steps_are = omega (arith, (run_further plan scripts quota possible limit (fresh_world log) (zeros_length most_domains)).far)

  -- and each of these is no more than its part of the bound
  pub ops_within : ops_run ran.world ≤ ops_stored scripts
  unfolding ops_stored
  ops_within = sum_under _ (stored_ops scripts) most_domains (λ domain below. within_scripts plan scripts quota limit log domain)

  pub steps_within : ran.done ≤ step_bound plan scripts
  unfolding step_bound
  steps_within =
      let windows = (scheduled plan scripts quota limit log possible).windows in
      let ops = ops_within in
      omega (arith, steps_are)

  -- before its end it has not come as far as the bound
  pub before_end : ended_of plan ran.world.state ≡ false → progress_of ran.world < step_bound plan scripts
  unfolding step_bound
  before_end running =
      let inside = in_window plan ran.world.state running in
      let ops = ops_within in
      omega arith

  -- where its limit is at least the bound, it ends
  pub ends : step_bound plan scripts ≤ limit → ended_of plan ran.world.state ≡ true
  ends enough = go (ended_of plan ran.world.state) refl
    where
      go : (ended : Bool) → ended_of plan ran.world.state ≡ ended → ended_of plan ran.world.state ≡ true
      go true test = test
      go false test = absurd (omega (arith, steps_are, run_whole plan scripts quota limit (fresh_world log) test, before_end test))
