-- Document 01, "Window, switch, run": what the code of a run is handed of a plan and a world, and what it answers beside the buffers.
-- Assumes nothing.
use Rattle.std.specs.Prelude.{ℕ, ◌+◌, ◌-◌, ◌^◌, ◌≤◌, ◌<◌, min, ◌≡◌, List, length, set, Option}
use Rattle.plan.specs.declared.Plan.{Plan}
use Rattle.plan.specs.Limits.{dearest_op}
use Rattle.plan.specs.Windows.{window_end, window_owner, windows_total}
use Rattle.script.specs.declared.Op.{Op}
use Rattle.script.specs.Limits.{most_ops}
use Rattle.cache.specs.Access.{access_of}
use Rattle.state.specs.declared.State.{State}
use Rattle.state.specs.World.{World, position_at, records_at}
use Rattle.machine.specs.declared.Turn.{Turn}
use Rattle.machine.specs.declared.WindowProgress.{WindowProgress}
use Rattle.machine.specs.Steps.{RunEffect, op_step_by, run_by, step_by}
use Rattle.machine.specs.Switch.{switch_of}

-- clocks, windows' ends and pads stay below this number, so that no sum of a few of them wraps
abbrev pub clock_bound : ℕ
clock_bound = 2 ^ 62

-- a state with the three lent tables
abbrev pub world_with : State → List ℕ → List ℕ → List ℕ → World
world_with state cache boxes log = record { state = state; cache = cache; boxes = boxes; log = log }

-- a number of steps with a world
abbrev pub ran_with : ℕ → World → RunEffect
ran_with steps world = record { done = steps; world = world }

-- n steps lead from one world to another, all of them before the run's end
abbrev pub RunsTo : (ℕ → Option ℕ) → Plan → List ℕ → ℕ → ℕ → World → World → Type 0
RunsTo places plan scripts quota steps before after =
    ran_with steps after ≡ run_by access_of places plan scripts quota steps before

-- a state with the windows, the clock, the position and the number of records that a turn has come to
abbrev pub turned : State → Turn → State
turned state turn =
    record {
      windows = turn.windows;
      clock = turn.clock;
      positions = set state.positions turn.owner turn.position;
      records = set state.records turn.owner turn.records;
    }

-- a turn after some ops more, that has come to a clock
abbrev pub turn_after : Turn → ℕ → ℕ → Turn
turn_after turn ops clock =
    record {
      windows = turn.windows;
      owner = turn.owner;
      end = turn.end;
      quota = turn.quota;
      clock = clock;
      position = turn.position + ops;
      records = turn.records + ops;
    }

-- how many ops more there can be at most: no more than a limit allows, than the domain's part of
-- the log has room for, and than its script has positions
abbrev pub ops_allowed : ℕ → Turn → ℕ
ops_allowed limit turn = min (min limit (turn.quota - turn.records)) (most_ops - turn.position)

-- a turn that has moved on: in the same window it has come to another clock, position and number of records
abbrev pub turn_moved : Turn → Turn → Turn
turn_moved first turn =
    record {
      windows = first.windows;
      owner = first.owner;
      end = first.end;
      quota = first.quota;
      clock = turn.clock;
      position = turn.position;
      records = turn.records;
    }

-- a state stands where a turn says
pub record Stands (state : State) (turn : Turn) : Type 0 where
  pub windows_is : state.windows ≡ turn.windows
  pub clock_is : state.clock ≡ turn.clock
  pub position_is : position_at state turn.owner ≡ turn.position
  pub records_is : records_at state turn.owner ≡ turn.records
  pub positions_long : turn.owner < length state.positions
  pub records_long : turn.owner < length state.records

-- what an op leaves, with the clock after it
pub record OpRan
    (place : Option ℕ) (view : Plan) (op : Op) (turn : Turn) (clock : ℕ)
    (cache boxes log cache' boxes' log' : List ℕ) : Type 0 where
  pub ticks : clock ≤ turn.clock + dearest_op
  pub world :
      (state : State)
      → Stands state turn
      → world_with (turned state (turn_after turn 1 clock)) cache' boxes' log'
      ≡ op_step_by access_of place view turn.owner op (world_with state cache boxes log)

-- the turn of a state in a run that has not ended, beside the plan's recipients and masks
pub record InTurn (plan : Plan) (rights masks : List ℕ) (state : State) (turn : Turn) : Type 0 where
  pub not_ended : turn.windows < windows_total plan
  pub owner_is : window_owner plan turn.windows ≡ turn.owner
  pub end_is : window_end plan turn.windows ≡ turn.end
  pub rights_are : plan.rights ≡ rights
  pub masks_are : plan.masks ≡ masks
  pub stands : Stands state turn

-- what the ops of a window leave: as many steps lead there, and where they are fewer than the limit a switch is next
pub record WindowRan
    (places : ℕ → Option ℕ) (plan : Plan) (scripts : List ℕ) (quota limit steps : ℕ)
    (before after : World) : Type 0 where
  pub ran : RunsTo places plan scripts quota steps before after
  pub due : steps < limit → step_by access_of places plan scripts quota after ≡ switch_of plan after

-- a window's ops and its switch, where the limit allows it: as many steps lead there
pub record TurnRan (limit pad : ℕ) (turn : Turn) (progress : WindowProgress) : Type 0 where
  pub some : 0 < progress.steps
  pub within : progress.steps ≤ limit
  pub owner_is : progress.turn.owner ≡ turn.owner
  pub next : progress.steps < limit → (progress.turn.windows ≡ turn.windows + 1) × (progress.turn.clock ≡ turn.end + pad)
