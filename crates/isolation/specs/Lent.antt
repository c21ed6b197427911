-- Document 02, E7: the guarantee of a single step, on any lent world. From a fresh start no line that
-- is written back moves; on lent tables it may, to a set other than that of the line asked for. So
-- what isolation rests on is said here of every world whose tables are sound. Assumes nothing.
use Rattle.std.specs.Prelude.{ℕ, ◌≤◌, ◌<◌, true, List, ◌≡◌, get_or, length}
use Rattle.plan.specs.declared.Plan.{Plan}
use Rattle.plan.specs.Limits.{most_domains}
use Rattle.plan.specs.Validity.{plan_valid}
use Rattle.script.specs.declared.Op.{Op}
use Rattle.script.specs.Limits.{OpWithinLimits}
use Rattle.records.specs.Records.{record_index}
use Rattle.ops.specs.Ops.{box_index, effect_of}
use Rattle.state.specs.World.{World, position_at, records_at, running_of}
use Rattle.machine.specs.Steps.{op_step_of, step_of}
use Rattle.reachable.specs.Lent.{TablesSound}
use Rattle.isolation.specs.Statement.{SameKernelSets, SameL1, SameSets}

-- a world that a call may be handed: sound tables, and a position and a record count for each domain
pub record LentWorld (plan : Plan) (world : World) : Type 0 where
  pub tables : TablesSound plan world
  pub positions : length world.state.positions ≡ most_domains
  pub records : length world.state.records ≡ most_domains

-- two worlds are the same to a domain outside its windows: its position, its record count, the L2
-- sets of its colours, and every byte of its records so far
pub record SameOutside (plan : Plan) (quota domain : ℕ) (one other : World) : Type 0 where
  pub position : position_at one.state domain ≡ position_at other.state domain
  pub records : records_at one.state domain ≡ records_at other.state domain
  pub sets : SameSets plan domain one.cache other.cache
  pub log :
      (index : ℕ)
      → record_index quota domain 0 ≤ index
      → index < record_index quota domain (records_at one.state domain)
      → index < record_index quota domain quota
      → get_or one.log index 0 ≡ get_or other.log index 0

-- and in a window of its own: also the window, the clock, L1, the kernel's sets, and the boxes
-- addressed to it
pub record SameInside (plan : Plan) (quota domain : ℕ) (one other : World) : Type 0 where
  pub outside : SameOutside plan quota domain one other
  pub windows : one.state.windows ≡ other.state.windows
  pub clock : one.state.clock ≡ other.state.clock
  pub l1 : SameL1 one.cache other.cache
  pub kernel_sets : SameKernelSets one.cache other.cache
  pub boxes :
      (sender : ℕ)
      → sender < most_domains
      → get_or one.boxes (box_index sender domain) 0 ≡ get_or other.boxes (box_index sender domain) 0

-- a step leaves every domain but the running one what it had, whatever it writes back
abbrev pub RivalsKept : Type 0
RivalsKept =
    (plan : Plan) (scripts : List ℕ) (quota domain : ℕ) (world : World)
    → plan_valid plan ≡ true
    → domain < plan.domains
    → LentWorld plan world
    → (domain ≡ running_of plan world.state → ⊥)
    → SameOutside plan quota domain world (step_of plan scripts quota world)

-- any op of the running domain does the same in two worlds that are the same to it, whatever else
-- they hold: it takes as long, shows the same and puts out the same lines, and the worlds that it
-- leaves are the same to the domain
pub record SameOp (plan : Plan) (quota : ℕ) (op : Op) (domain : ℕ) (one other : World) : Type 0 where
  pub ticks :
      (effect_of plan domain op one.cache one.boxes).ticks
      ≡ (effect_of plan domain op other.cache other.boxes).ticks
  pub seen :
      (effect_of plan domain op one.cache one.boxes).seen
      ≡ (effect_of plan domain op other.cache other.boxes).seen
  pub first :
      (effect_of plan domain op one.cache one.boxes).first
      ≡ (effect_of plan domain op other.cache other.boxes).first
  pub second :
      (effect_of plan domain op one.cache one.boxes).second
      ≡ (effect_of plan domain op other.cache other.boxes).second
  pub left :
      SameInside plan quota domain (op_step_of plan quota domain op one)
      (op_step_of plan quota domain op other)

abbrev pub OpsAlike : Type 0
OpsAlike =
    (plan : Plan) (quota : ℕ) (op : Op) (one other : World)
    → plan_valid plan ≡ true
    → OpWithinLimits op
    → LentWorld plan one
    → LentWorld plan other
    → length one.log ≡ length other.log
    → SameInside plan quota (running_of plan one.state) one other
    → SameOp plan quota op (running_of plan one.state) one other
