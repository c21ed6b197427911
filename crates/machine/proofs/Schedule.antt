-- Windows start when the plan alone says: where the clock of a reached world stands, and that a switch sets it to the next window's start.
-- Assumes nothing.
use Rattle.std.specs.Prelude.{Option}
use Prim.Native.Nat.{ℕ, suc, ◌+◌, ◌-◌, ◌≤◌, ◌<◌}
use mathlib.Core.Bool.{Bool, and-eq-true_iff, false, true}
use mathlib.Core.List.{List}
use mathlib.Core.Logic.{◌⊎◌, inl, inr}
use mathlib.Core.Path.{◌≡◌, refl, sym, ap, ◌∙◌}
use native.Mathlib.Numerals.{add-one}
use native.Mathlib.Omega.{arith}
use lib.Dec.{ltb}
use borrow.Author.Tests.{eqb-true, leb-true, ltb-false, ltb-true}
use Rattle.plan.specs.declared.Plan.{Plan}
use Rattle.plan.specs.Limits.{dearest_op}
use Rattle.plan.specs.Validity.{plan_valid}
use Rattle.plan.specs.Windows.{window_end, window_start, ticks_total, windows_total}
use Rattle.plan.proofs.Windows.{pad_least, start_total}
use Rattle.script.specs.declared.Op.{Op}
use Rattle.cache.proofs.Ticks.{flush_ticks_lem}
use Rattle.cache.specs.Access.{access_of}
use Rattle.records.specs.Records.{in_parts}
use Rattle.ops.proofs.Ticks.{effect_ticks}
use Rattle.state.specs.StateValidity.{clock_valid, state_valid}
use Rattle.state.specs.World.{World, fresh_state, position_at, running_of}
use Rattle.machine.specs.Fresh.{fresh_world}
use Rattle.machine.specs.Steps.{op_step_by, step_of, steps, steps_by}
use Rattle.machine.specs.Switch.{flushed_clock, padded_clock, switch_by, switch_of, touched_clock_by}
use Rattle.machine.proofs.Fetched.{fetched_within}
use Rattle.machine.proofs.Invariant.{Begins, step_cases, steps_hold}
use Rattle.machine.proofs.Switched.{touch_most}

-- windows at most the total; in a window the clock is from its start to its end + (dearest_op - 1); ended, it is the start that a next window would have
pub record Scheduled (plan : Plan) (world : World) : Type 0 where
  pub windows : world.state.windows ≤ windows_total plan
  pub started : window_start plan world.state.windows ≤ world.state.clock
  pub soon : world.state.windows < windows_total plan → world.state.clock ≤ window_end plan world.state.windows + (dearest_op - 1)
  pub ended : world.state.windows ≡ windows_total plan → world.state.clock ≡ window_start plan world.state.windows

-- the next window starts at a window's end + the pad, and no window ends before it starts
pub next_start : (plan : Plan) (window : ℕ) → window_start plan (suc window) ≡ window_end plan window + plan.pad
unfolding window_start window_end
next_start plan window = refl

start_end : (plan : Plan) (window : ℕ) → window_start plan window ≤ window_end plan window
unfolding window_end
start_end plan window = omega arith

-- the lateness of an op and the ticks of both flushes and of the touch are within the pad: after a switch the clock is exactly the next
-- window's start
pub switch_clock : (plan : Plan) (world : World) → plan_valid plan ≡ true → Scheduled plan world → world.state.windows < windows_total plan
    → (switch_of plan world).state.clock ≡ window_start plan (world.state.windows + 1)
unfolding switch_by padded_clock touched_clock_by flushed_clock
switch_clock plan world possible scheduled in_a_window =
    let late = scheduled.soon in_a_window in
    let flush = flush_ticks_lem world.cache in
    let touch = touch_most world.cache in
    let pad = pad_least plan possible in
    let next = ap (window_start plan) (add-one world.state.windows) ∙ next_start plan world.state.windows in
    omega arith

-- ended, the clock is the run's total of ticks
pub ended_clock_lem : (plan : Plan) (world : World) → plan_valid plan ≡ true → Scheduled plan world → world.state.windows ≡ windows_total plan
    → world.state.clock ≡ ticks_total plan
ended_clock_lem plan world possible scheduled all = scheduled.ended all ∙ ap (window_start plan) all ∙ start_total plan possible

module _ (plan : Plan) (possible : plan_valid plan ≡ true) where
  after_switch : (world : World) → Scheduled plan world → world.state.windows < windows_total plan → Scheduled plan (switch_of plan world)
  unfolding switch_by
  after_switch world scheduled in_a_window =
      let exact = switch_clock plan world possible scheduled in_a_window in
      let length = start_end plan (world.state.windows + 1) in
      record { windows = omega arith; started = omega arith; soon = λ h. omega arith; ended = λ h. exact }

  after_op : (place : Option ℕ) (scripts : List ℕ) (quota : ℕ) (world : World) (op : Op) → Scheduled plan world → Begins plan scripts quota world op
      → Scheduled plan (op_step_by access_of place plan (running_of plan world.state) op world)
  unfolding op_step_by
  after_op place scripts quota world op scheduled begins =
      let running = running_of plan world.state in
      let ticks =
      effect_ticks plan running op world.cache world.boxes
      (fetched_within scripts running (position_at world.state running) op begins.next)
      in
      record { windows = scheduled.windows; started = omega arith; soon = λ h. omega arith; ended = λ h. omega arith }

  at_start : (log : List ℕ) → Scheduled plan (fresh_world log)
  unfolding fresh_world fresh_state window_start
  at_start log = record { windows = omega arith; started = omega arith; soon = λ h. omega arith; ended = λ h. refl }

-- every world that a run reaches from a fresh start is on schedule
pub scheduled : (plan : Plan) (scripts : List ℕ) (quota count : ℕ) (log : List ℕ) → plan_valid plan ≡ true
    → Scheduled plan (steps plan scripts quota count (fresh_world log))
scheduled plan scripts quota count log possible =
    steps_hold (in_parts quota) plan scripts quota (Scheduled plan) (after_switch plan possible) (λ world. after_op plan possible _ scripts quota world) (fresh_world log)
    (at_start plan possible log)
    count

-- one window more, at its start
pub record NextStarts (plan : Plan) (world next : World) : Type 0 where
  pub windows : next.state.windows ≡ world.state.windows + 1
  pub exact : next.state.clock ≡ window_start plan (world.state.windows + 1)

abbrev pub NextWindow : Plan → World → World → Type 0
NextWindow plan world next = (next.state.windows ≡ world.state.windows) ⊎ NextStarts plan world next

-- a step from a world on schedule stays in its window, or is the switch that starts the next window, at its start
pub step_windows : (plan : Plan) (scripts : List ℕ) (quota : ℕ) (world : World) → plan_valid plan ≡ true → Scheduled plan world
    → NextWindow plan world (step_of plan scripts quota world)
unfolding op_step_by switch_by
step_windows plan scripts quota world possible scheduled =
    step_cases (in_parts quota) plan scripts quota world (NextWindow plan world) (λ ended. inl refl)
    (λ in_a_window. inr (record { windows = refl; exact = switch_clock plan world possible scheduled in_a_window }))
    (λ op begins. inl refl)

-- steps keep to the schedule
pub steps_scheduled : (places : ℕ → Option ℕ) (plan : Plan) (scripts : List ℕ) (quota : ℕ) (world : World) → plan_valid plan ≡ true → Scheduled plan world
    → (count : ℕ)
    → Scheduled plan (steps_by access_of places plan scripts quota count world)
steps_scheduled places plan scripts quota world possible on-schedule =
    steps_hold places plan scripts quota (Scheduled plan) (after_switch plan possible) (λ world. after_op plan possible _ scripts quota world) world on-schedule

-- a valid state (14) is on schedule
pub valid_scheduled : (plan : Plan) (quota : ℕ) (world : World) → plan_valid plan ≡ true → state_valid plan quota world.state ≡ true
    → Scheduled plan world
unfolding state_valid clock_valid
valid_scheduled plan quota world possible passes =
    go (ltb world.state.windows (windows_total plan)) refl ((and-eq-true_iff (clock_valid plan world.state) _).0 passes).0
  where
    go : (before : Bool) → ltb world.state.windows (windows_total plan) ≡ before → clock_valid plan world.state ≡ true → Scheduled plan world
    go true test clock =
        let within : world.state.windows < windows_total plan = ltb-true _ _ test in
        let parts = (and-eq-true_iff _ _).0 (rw (test, clock_valid) at clock) in
        record {
          windows = omega arith;
          started = leb-true _ _ parts.0;
          soon = λ h. leb-true _ _ parts.1;
          ended = λ h. absurd (omega arith);
        }
    go false test clock =
        let parts = (and-eq-true_iff _ _).0 (rw (test, clock_valid) at clock) in
        let past : windows_total plan ≤ world.state.windows = ltb-false _ _ test in
        let all : world.state.windows ≡ windows_total plan = eqb-true _ _ parts.0 in
        let exact : world.state.clock ≡ window_start plan world.state.windows =
        eqb-true _ _ parts.1 ∙ sym (start_total plan possible) ∙ ap (window_start plan) (sym all) in
        record { windows = omega arith; started = omega arith; soon = λ h. absurd (omega arith); ended = λ h. exact }
