-- What holds along a run: whatever a switch and an op that begins keep holds after any number of steps. Assumes nothing.
use Rattle.std.specs.Prelude.{Option, Some, None}
use Prim.Native.Nat.{ℕ, zero, suc, ◌<◌}
use mathlib.Core.Bool.{Bool, true, false, cond, ◌||◌}
use mathlib.Core.List.{List}
use mathlib.Core.Path.{◌≡◌, refl, sym, subst, ◌∙◌}
use lib.Dec.{leb}
use lib.ListN.{length, length-set}
use borrow.Author.Tests.{leb-false}
use Rattle.plan.specs.declared.Plan.{Plan}
use Rattle.plan.specs.Windows.{window_end, windows_total}
use Rattle.script.specs.declared.Op.{Op}
use Rattle.script.proofs.ScriptEnd.{end_is_none}
use Rattle.cache.specs.Access.{access_of}
use Rattle.records.proofs.Places.{stored_length}
use Rattle.state.specs.declared.State.{State}
use Rattle.state.specs.World.{World, ended_of, records_at, running_of}
use Rattle.machine.specs.declared.Turn.{Turn}
use Rattle.machine.specs.Steps.{active_step_by, is_end, next_item, next_step_of, op_step_by, run_by, step_by, steps_by, switch_due, turn_of}
use Rattle.machine.specs.Switch.{switch_by, switch_of}
use Rattle.machine.proofs.Runs.{step_active, step_ended, steps_last}

-- an op is next in a turn: before the window's end, with room in the domain's part of the log, where an op stands next in its script
pub record OpNext (scripts : List ℕ) (turn : Turn) (op : Op) : Type 0 where
  pub in_time : turn.clock < turn.end
  pub room : turn.records < turn.quota
  pub next : next_item scripts turn ≡ Some op

-- an op begins: it is next in a window
pub record Begins (plan : Plan) (scripts : List ℕ) (quota : ℕ) (world : World) (op : Op) : Type 0 where
  pub in_a_window : world.state.windows < windows_total plan
  pub in_time : world.state.clock < window_end plan world.state.windows
  pub room : records_at world.state (running_of plan world.state) < quota
  pub next : next_item scripts (turn_of plan quota world.state) ≡ Some op

-- the next step is an op only there
pub op_next : (scripts : List ℕ) (turn : Turn) (op : Op) → next_step_of scripts turn ≡ Some op → OpNext scripts turn op
unfolding next_step_of switch_due
op_next scripts turn op is =
    go (leb turn.end turn.clock) refl (next_item scripts turn) refl (leb turn.quota turn.records) refl is
  where
    go :
        (late : Bool) → leb turn.end turn.clock ≡ late
        → (item : Option Op) → next_item scripts turn ≡ item
        → (full : Bool) → leb turn.quota turn.records ≡ full
        → cond (late || is_end item || full) None item ≡ Some op
        → OpNext scripts turn op
    go true late item next full room is = absurd (end_is_none op is)
    go false late None next full room is = absurd (end_is_none op is)
    go false late (Some found) next true room is = absurd (end_is_none op is)
    go false late (Some found) next false room is =
        record { in_time = leb-false _ _ late; room = leb-false _ _ room; next = cc }

-- a run that has not ended is in a window
pub in_window : (plan : Plan) (state : State) → ended_of plan state ≡ false → state.windows < windows_total plan
unfolding ended_of
in_window plan state running = leb-false _ _ running

-- what holds of the world after a step: of the same world where the run has ended, else of the world after a switch, or after an op that begins
module _
    (places : ℕ → Option ℕ)
    (plan : Plan)
    (scripts : List ℕ)
    (quota : ℕ)
    (world : World)
    (Holds : World → Type 0)
    (ended-holds : ended_of plan world.state ≡ true → Holds world)
    (switch_holds : world.state.windows < windows_total plan → Holds (switch_of plan world))
    (op-holds : (op : Op) → Begins plan scripts quota world op → Holds (op_step_by access_of (places (running_of plan world.state)) plan (running_of plan world.state) op world))
  where
    pub step_cases : Holds (step_by access_of places plan scripts quota world)
    unfolding active_step_by
    step_cases = by_end (ended_of plan world.state) refl
      where
        by_next : (next : Option Op) → next_step_of scripts (turn_of plan quota world.state) ≡ next
            → ended_of plan world.state ≡ false
            → Holds (active_step_by access_of places plan next world)
        by_next None is running = switch_holds (in_window plan world.state running)
        by_next (Some op) is running =
            let next = op_next scripts _ op is in
            op-holds op
            (record { in_a_window = in_window plan world.state running; in_time = next.in_time; room = next.room; next = next.next })

        by_end : (ended : Bool) → ended_of plan world.state ≡ ended → Holds (step_by access_of places plan scripts quota world)
        by_end true ended = subst Holds (sym (step_ended places plan scripts quota world ended)) (ended-holds ended)
        by_end false running = subst Holds (sym (step_active places plan scripts quota world running)) (by_next _ refl running)

-- what a switch and an op that begins keep holds after any number of steps
module _
    (places : ℕ → Option ℕ)
    (plan : Plan)
    (scripts : List ℕ)
    (quota : ℕ)
    (Holds : World → Type 0)
    (after_switch : (world : World) → Holds world → world.state.windows < windows_total plan → Holds (switch_of plan world))
    (after_op :
    (world : World) (op : Op) → Holds world → Begins plan scripts quota world op
    → Holds (op_step_by access_of (places (running_of plan world.state)) plan (running_of plan world.state) op world))
  where
    step_holds : (world : World) → Holds world → Holds (step_by access_of places plan scripts quota world)
    step_holds world holds = step_cases places plan scripts quota world Holds (λ ended. holds) (after_switch world holds) (λ op. after_op world op holds)

    pub steps_hold : (world : World) → Holds world → (count : ℕ) → Holds (steps_by access_of places plan scripts quota count world)
    unfolding run_by
    steps_hold world holds zero = holds
    steps_hold world holds (suc count) =
        subst Holds (sym (steps_last places plan scripts quota count world)) (step_holds _ (steps_hold world holds count))

-- no step changes how many counts a state has
abbrev SameCounts : World → World → Type 0
SameCounts one other =
    (length one.state.positions ≡ length other.state.positions) × (length one.state.records ≡ length other.state.records)

pub steps_counts : (places : ℕ → Option ℕ)
    (plan : Plan) (scripts : List ℕ) (quota count : ℕ) (world : World)
    → SameCounts (steps_by access_of places plan scripts quota count world) world
unfolding op_step_by switch_by
steps_counts places plan scripts quota count world =
    steps_hold places plan scripts quota (λ reached. SameCounts reached world)
    (λ reached kept in_a_window. kept)
    (λ reached op kept begins. (simp length-set kept.0, simp length-set kept.1))
    world (refl, refl) count

-- nor how long the log is
pub steps_log : (places : ℕ → Option ℕ) (plan : Plan) (scripts : List ℕ) (quota count : ℕ) (world : World)
    → length (steps_by access_of places plan scripts quota count world).log ≡ length world.log
unfolding op_step_by switch_by
steps_log places plan scripts quota count world =
    steps_hold places plan scripts quota (λ reached. length reached.log ≡ length world.log)
    (λ reached kept in_a_window. kept)
    (λ reached op kept begins. stored_length _ _ _ _ reached.log ∙ kept)
    world refl count
