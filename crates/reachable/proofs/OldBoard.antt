-- No run from a fresh start shows E7's write-back: along it every line of L1 is in front of its set, so that every step is
-- document 01's own. Assumes nothing.
use Rattle.std.specs.Prelude.{Option, Some, None}
use Prim.Native.Nat.{ℕ, zero, suc, ◌<◌}
use mathlib.Core.Bool.{Bool, true, false}
use mathlib.Core.List.{List}
use mathlib.Core.Path.{◌≡◌, refl, sym, ap, ◌∙◌}
use native.Mathlib.Omega.{arith}
use lib.ListN.{length, replicate}
use borrow.Author.Tests.{lt-leb}
use Rattle.plan.specs.declared.Plan.{Plan}
use Rattle.plan.specs.Validity.{plan_valid}
use Rattle.plan.specs.Windows.{windows_total}
use Rattle.plan.proofs.Windows.{domains_most, owner_declared}
use Rattle.script.specs.declared.Op.{Op}
use Rattle.script.specs.Limits.{OpWithinLimits}
use Rattle.cache.specs.Lines.{table_length}
use Rattle.cache.specs.Access.{old_access_of}
use Rattle.records.specs.Records.{in_parts, part_records}
use Rattle.ops.specs.Ops.{Effect, effect_of}
use Rattle.state.specs.World.{World, ended_of, position_at, running_of}
use Rattle.machine.specs.Fresh.{fresh_world, reached_world}
use Rattle.machine.specs.Steps.{active_step, active_step_by, after_effect, next_step_of, one_more, op_step_by, op_step_of, run_by, run_of, step_by, step_of, steps, turn_of}
use Rattle.machine.specs.Switch.{is_last, switch_by, switch_of}
use Rattle.machine.proofs.Fetched.{fetched_within}
use Rattle.machine.proofs.Invariant.{Begins, in_window, op_next, step_cases, steps_hold}
use Rattle.machine.proofs.Switched.{switch_alike}
use Rattle.reachable.specs.OldBoard.{InFront, LinesInFront, NothingShown, old_effect_of, old_run_of, old_step_of}
use Rattle.reachable.proofs.Cells.{cell_zeros}
use Rattle.reachable.proofs.Fronts.{SameEffect, effect_same, none_in_front}
use Rattle.reachable.proofs.Switches.{switch_front}
use Rattle.reachable.proofs.Tables.{Sound, after_op, after_switch, at_start}

module _ (plan : Plan) (scripts : List ℕ) (quota log_length : ℕ) (possible : plan_valid plan ≡ true) where
  -- ---- along a run

  pub record Fronted (world : World) : Type 0 where
    pub sound : Sound plan log_length world
    pub front : InFront world.cache

  -- any op of the running domain is document 01's own
  any_op : (world : World) (op : Op) → Fronted world → ended_of plan world.state ≡ false → OpWithinLimits op
      → SameEffect (effect_of plan (running_of plan world.state) op world.cache world.boxes)
      (old_effect_of plan (running_of plan world.state) op world.cache world.boxes)
  any_op world op f running good =
      let declared = owner_declared plan world.state.windows possible in
      let most = domains_most plan possible in
      effect_same plan world.state running world.cache world.boxes f.sound.cache f.sound.boxes f.front
      (omega arith) op good

  -- and so is the one that begins
  pub same_op : (world : World) (op : Op) → Fronted world → Begins plan scripts quota world op
      → SameEffect (effect_of plan (running_of plan world.state) op world.cache world.boxes)
      (old_effect_of plan (running_of plan world.state) op world.cache world.boxes)
  unfolding ended_of
  same_op world op f begins =
      let running = running_of plan world.state in
      any_op world op f (lt-leb (windows_total plan) world.state.windows begins.in_a_window)
      (fetched_within scripts running (position_at world.state running) op begins.next)

  pub switch_fronted : (world : World) → Fronted world → world.state.windows < windows_total plan → Fronted (switch_of plan world)
  unfolding switch_by
  switch_fronted world f in_a_window =
      record {
        sound = after_switch plan scripts quota log_length possible world f.sound in_a_window;
        front = switch_front plan world.state world.state world.cache f.sound.cache (is_last plan world.state.windows);
      }

  pub op_fronted : (world : World) (op : Op) → Fronted world → Begins plan scripts quota world op
      → Fronted (op_step_of plan quota (running_of plan world.state) op world)
  unfolding op_step_by
  op_fronted world op f begins =
      record {
        sound = after_op plan scripts quota log_length possible world op f.sound begins;
        front = (same_op world op f begins).front;
      }

  pub start_fronted : (log : List ℕ) → length log ≡ log_length → Fronted (fresh_world log)
  unfolding fresh_world
  start_fronted log long =
      record {
        sound = at_start plan scripts quota log_length possible log long;
        front = none_in_front (replicate table_length 0) (λ index below. cell_zeros table_length index);
      }

  -- every world that a run reaches from a fresh start
  pub fronted : (count : ℕ) (log : List ℕ) → length log ≡ log_length → Fronted (steps plan scripts quota count (fresh_world log))
  fronted count log long =
      steps_hold _ plan scripts quota Fronted switch_fronted op_fronted (fresh_world log) (start_fronted log long) count

  -- ---- the two boards

  same_active : (world : World) → Fronted world → ended_of plan world.state ≡ false → (next : Option Op)
      → next_step_of scripts (turn_of plan quota world.state) ≡ next
      → active_step plan quota next world ≡ active_step_by old_access_of (in_parts quota) plan next world
  unfolding active_step_by op_step_by
  same_active world f running None is = sym (switch_alike plan world)
  same_active world f running (Some op) is =
      let next = op_next scripts _ op is in
      let begins : Begins plan scripts quota world op =
      record { in_a_window = in_window plan world.state running; in_time = next.in_time; room = next.room; next = next.next } in
      let running = running_of plan world.state in
      ap (λ (effect : Effect). after_effect (in_parts quota running) running effect world) (same_op world op f begins).same

  same_step : (world : World) → Fronted world → step_of plan scripts quota world ≡ old_step_of plan scripts quota world
  unfolding step_by
  same_step world f = go (ended_of plan world.state) refl
    where
      go : (ended : Bool) → ended_of plan world.state ≡ ended → step_of plan scripts quota world ≡ old_step_of plan scripts quota world
      go true test = rw (test, step_by) refl
      go false test = rw (test, step_by) (same_active world f test _ refl)

  step_fronted : (world : World) → Fronted world → Fronted (step_of plan scripts quota world)
  step_fronted world f =
      step_cases _ plan scripts quota world Fronted (λ ended. f) (switch_fronted world f) (λ op. op_fronted world op f)

  same_run : (limit : ℕ) (world : World) → Fronted world
      → run_of plan scripts quota limit world ≡ old_run_of plan scripts quota limit world
  unfolding run_by
  same_run zero world f = refl
  same_run (suc limit) world f =
      go (ended_of plan world.state) refl
      (same_run limit (step_of plan scripts quota world) (step_fronted world f)
      ∙ ap (old_run_of plan scripts quota limit) (same_step world f))
    where
      go : (ended : Bool) → ended_of plan world.state ≡ ended
          → run_of plan scripts quota limit (step_of plan scripts quota world)
          ≡ old_run_of plan scripts quota limit (old_step_of plan scripts quota world)
          → run_of plan scripts quota (suc limit) world ≡ old_run_of plan scripts quota (suc limit) world
      go true test rest = rw (test, run_by) refl
      go false test rest = rw (test, run_by) (ap one_more rest)

-- in every reached world
pub reached_op : (plan : Plan) (scripts log : List ℕ) (count : ℕ) → plan_valid plan ≡ true → (op : Op)
    → ended_of plan (reached_world plan scripts log count).state ≡ false → OpWithinLimits op
    → effect_of plan (running_of plan (reached_world plan scripts log count).state) op
    (reached_world plan scripts log count).cache (reached_world plan scripts log count).boxes
    ≡ old_effect_of plan (running_of plan (reached_world plan scripts log count).state) op
    (reached_world plan scripts log count).cache (reached_world plan scripts log count).boxes
reached_op plan scripts log count possible op running good =
    (any_op plan scripts (part_records plan (length log)) (length log) possible (reached_world plan scripts log count) op
    (fronted plan scripts (part_records plan (length log)) (length log) possible count log refl) running good).same

pub lines_in_front : LinesInFront
lines_in_front plan scripts log count possible =
    (fronted plan scripts (part_records plan (length log)) (length log) possible count log refl).front

pub nothing_shown : NothingShown
nothing_shown plan scripts log limit possible =
    same_run plan scripts (part_records plan (length log)) (length log) possible limit (fresh_world log)
    (start_fronted plan scripts (part_records plan (length log)) (length log) possible log refl)
