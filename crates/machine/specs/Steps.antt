-- Document 01, "Window, switch, run", and document 02, E8: one step, n steps, a run under a limit.
-- The step is defined once, over the access that a board makes and where each domain's records go.
-- Assumes nothing.
use Rattle.std.specs.Prelude.{ℕ, zero, suc, ◌+◌, Bool, true, false, cond, ◌||◌, List, leb, set, Option, Some, None}
use Rattle.plan.specs.declared.Plan.{Plan}
use Rattle.plan.specs.Windows.{window_end}
use Rattle.script.specs.declared.Op.{Op}
use Rattle.script.specs.Fetch.{fetch_of}
use Rattle.cache.specs.Access.{AccessOutcome, access_of}
use Rattle.records.specs.declared.Keep.{Keep}
use Rattle.records.specs.Records.{in_parts, places_of, stored_at}
use Rattle.ops.specs.Ops.{Effect, effect_by}
use Rattle.state.specs.declared.State.{State}
use Rattle.state.specs.World.{World, ended_of, position_at, records_at, running_of}
use Rattle.machine.specs.declared.Turn.{Turn}
use Rattle.machine.specs.Switch.{switch_by}

-- ---- which step is next

-- where the running domain stands in its window. Here and below, `quota` is the number of records
-- that each domain has room for.
abbrev pub turn_of : Plan → ℕ → State → Turn
turn_of plan quota state =
    record {
      windows = state.windows;
      owner = running_of plan state;
      end = window_end plan state.windows;
      quota = quota;
      clock = state.clock;
      position = position_at state (running_of plan state);
      records = records_at state (running_of plan state);
    }

-- what stands next in its script
abbrev pub next_item : List ℕ → Turn → Option Op
next_item scripts turn = fetch_of scripts turn.owner turn.position

-- the script has ended
abbrev pub is_end : Option Op → Bool
is_end (Some op) = false
is_end None = true

-- a switch is due: the clock has reached the window's end, or the script has ended, or the domain's
-- log is full
unfoldable pub switch_due : List ℕ → Turn → Bool
switch_due scripts turn =
    leb turn.end turn.clock || is_end (next_item scripts turn) || leb turn.quota turn.records

-- the next step in a window: where no switch is due, the op that stands next in the script; `End`
-- is the switch
unfoldable pub next_step_of : List ℕ → Turn → Option Op
next_step_of scripts turn = cond (switch_due scripts turn) None (next_item scripts turn)

-- ---- what a step leaves

-- what a run under a limit leaves, with the number of steps done
pub record RunEffect : Type 0 where
  pub done : ℕ
  pub world : World

-- one step more was done before these
abbrev pub one_more : RunEffect → RunEffect
one_more ran = record { done = ran.done + 1; world = ran.world }

-- what an op of a domain leaves of a world, by its effect: the next position, one record more, the
-- clock after the op, and the effect's cache table and boxes. The record goes where the domain's
-- records go; it is counted also where that is nowhere. What the op's accesses put out is no part
-- of a world.
abbrev pub after_effect : Option ℕ → ℕ → Effect → World → World
after_effect place domain effect world =
    let clock = world.state.clock + effect.ticks in
    let count = records_at world.state domain in
    record {
      state =
          record {
            windows = world.state.windows;
            clock = clock;
            positions = set world.state.positions domain (position_at world.state domain + 1);
            records = set world.state.records domain (count + 1);
          };
      cache = effect.cache;
      boxes = effect.boxes;
      log = stored_at place count effect.seen clock world.log;
    }

-- over the access that a board makes, by an op and by a switch's touch
module _ (access : Bool → ℕ → List ℕ → AccessOutcome) where
  -- one op of a domain, whose records go to a place
  unfoldable pub op_step_by : Option ℕ → Plan → ℕ → Op → World → World
  op_step_by place plan domain op world =
      after_effect place domain (effect_by access plan domain op world.cache world.boxes) world

  -- and over where each domain's records go
  module _ (places : ℕ → Option ℕ) where
    -- what the next step in a window leaves
    unfoldable pub active_step_by : Plan → Option Op → World → World
    active_step_by plan (Some op) world =
        let domain = running_of plan world.state in
        op_step_by (places domain) plan domain op world
    active_step_by plan None world = switch_by access plan world

    -- one step; an ended run stays as it is
    unfoldable pub step_by : Plan → List ℕ → ℕ → World → World
    step_by plan scripts quota world =
        elim (ended_of plan world.state) [
          | true ↦ world
          | false ↦ active_step_by plan (next_step_of scripts (turn_of plan quota world.state)) world
        ]

    -- a run does as many steps as its limit allows, fewer only where it comes to its end
    unfoldable pub run_by : Plan → List ℕ → ℕ → ℕ → World → RunEffect
    run_by plan scripts quota zero world = record { done = 0; world = world }
    run_by plan scripts quota (suc limit) world =
        elim (ended_of plan world.state) [
          | true ↦ record { done = 0; world = world }
          | false ↦ one_more (run_by plan scripts quota limit (step_by plan scripts quota world))
        ]

    -- the world after n steps, or after the last switch where these are fewer: what a run leaves
    -- whose limit is n
    abbrev pub steps_by : Plan → List ℕ → ℕ → ℕ → World → World
    steps_by plan scripts quota count world = (run_by plan scripts quota count world).world

-- ---- the machine

-- a run, by whose records are kept
abbrev pub run_keeping : Keep → Plan → List ℕ → ℕ → ℕ → World → RunEffect
run_keeping keep plan scripts quota = run_by access_of (places_of keep quota) plan scripts quota

-- document 01's runs keep every domain's, each in its part of the log: one op, the next step in a
-- window, one step, a run, n steps
abbrev pub op_step_of : Plan → ℕ → ℕ → Op → World → World
op_step_of plan quota domain = op_step_by access_of (in_parts quota domain) plan domain

abbrev pub active_step : Plan → ℕ → Option Op → World → World
active_step plan quota = active_step_by access_of (in_parts quota) plan

abbrev pub step_of : Plan → List ℕ → ℕ → World → World
step_of plan scripts quota = step_by access_of (in_parts quota) plan scripts quota

abbrev pub run_of : Plan → List ℕ → ℕ → ℕ → World → RunEffect
run_of plan scripts quota = run_by access_of (in_parts quota) plan scripts quota

abbrev pub steps : Plan → List ℕ → ℕ → ℕ → World → World
steps plan scripts quota = steps_by access_of (in_parts quota) plan scripts quota
