-- Document 01, "Two lists of calls": what a set of domains sees, computed from the plan, its own
-- scripts, the length of the log, and what the boxes addressed to it held at the start of each of
-- its windows, and from nothing else: the machine with every other domain's window passing idle.
-- Assumes nothing.
use Rattle.std.specs.Prelude.{ℕ, zero, suc, ◌<◌, ◌≤◌, Bool, true, cond, List, ◌≡◌, eqb, get_or, length, replicate}
use Rattle.plan.specs.declared.Plan.{Plan}
use Rattle.plan.specs.Limits.{most_domains}
use Rattle.plan.specs.Windows.{window_owner, windows_total}
use Rattle.script.specs.Limits.{most_ops}
use Rattle.records.specs.Records.{log_part, part_records}
use Rattle.ops.specs.Ops.{box_index, boxes_length}
use Rattle.state.specs.World.{World, position_at, records_at}
use Rattle.machine.specs.Fresh.{fresh_world}
use Rattle.machine.specs.Steps.{step_of}
use Rattle.machine.specs.Switch.{switch_of}
use Rattle.isolation.specs.Calls.{CallList, IsList, point_of}
use Rattle.isolation.specs.Points.{FreshRun, InWindowOf, SameBoxesTo, Starts, ops_of}
use Rattle.isolation.specs.Points.{windows_after, world_after}
use Rattle.isolation.specs.Statement.{SameKernelSets, SameL1, SameSets, ScriptsAgree}

-- what is given: the plan, the set, a script store of which the set's scripts alone are read, the
-- log's length, and the boxes at the start of each window, of which those addressed to the set
-- alone are read
pub record SoloInput : Type 0 where
  pub plan : Plan
  pub in_set : ℕ → Bool
  pub scripts : List ℕ
  pub log_length : ℕ
  pub mail : ℕ → List ℕ

-- a domain of the set
abbrev pub InSet : SoloInput → ℕ → Type 0
InSet input domain = input.in_set domain ≡ true

-- the number of records that each part of the log holds
abbrev pub solo_quota : SoloInput → ℕ
solo_quota input = part_records input.plan input.log_length

-- one step within a window: where a switch is due the machine waits
unfoldable pub wait_step : SoloInput → World → World
wait_step input world =
    let next = step_of input.plan input.scripts (solo_quota input) world in
    cond (eqb next.state.windows world.state.windows) next world

unfoldable pub wait_steps : SoloInput → ℕ → World → World
wait_steps input zero world = world
wait_steps input (suc count) world = wait_step input (wait_steps input count world)

-- a world with the boxes as they were given
abbrev pub with_boxes : List ℕ → World → World
with_boxes boxes world =
    record { state = world.state; cache = world.cache; boxes = boxes; log = world.log }

-- a window after some steps, from its start: a window of the set is run on the boxes that were
-- given for it, any other passes idle
unfoldable pub solo_from : SoloInput → ℕ → ℕ → World → World
solo_from input window count start =
    cond (input.in_set (window_owner input.plan window))
    (wait_steps input count (with_boxes (input.mail window) start))
    start

-- a window's start: the fresh start, or the switch after the window before, which has no more than
-- `most_ops` ops
unfoldable pub solo_start : SoloInput → ℕ → World
solo_start input zero = fresh_world (replicate input.log_length 0)
solo_start input (suc window) =
    switch_of input.plan (solo_from input window most_ops (solo_start input window))

-- the world in a window after some of its ops
abbrev pub solo_at : SoloInput → ℕ → ℕ → World
solo_at input window count = solo_from input window count (solo_start input window)

-- ---- a run agrees with it

-- a run under the same plan, with any script store and any log
abbrev pub run_under : SoloInput → List ℕ → List ℕ → FreshRun
run_under input scripts log = record { plan = input.plan; scripts = scripts; log = log }

-- its scripts of the set, its log's length, and at the start of each of the set's windows so far
-- the boxes addressed to the set, are what was given
pub record Matches (input : SoloInput) (scripts log : List ℕ) (count : ℕ) : Type 0 where
  pub declared : (domain : ℕ) → InSet input domain → domain < input.plan.domains
  pub scripts_are : ScriptsAgree (InSet input) scripts input.scripts
  pub log_is : length log ≡ input.log_length
  pub mail_fits : (window : ℕ) → length (input.mail window) ≡ boxes_length
  pub mail_is :
      (window at : ℕ)
      → window < windows_total input.plan
      → InSet input (window_owner input.plan window)
      → Starts (run_under input scripts log) window at
      → at ≤ count
      → (sender recipient : ℕ)
      → sender < most_domains
      → InSet input recipient
      → get_or (world_after (run_under input scripts log) at).boxes (box_index sender recipient) 0
      ≡ get_or (input.mail window) (box_index sender recipient) 0

-- what a member of the set sees in a world is what it sees in another
pub record SameToMember (input : SoloInput) (member : ℕ) (one other : World) : Type 0 where
  pub records : records_at one.state member ≡ records_at other.state member
  pub log :
      log_part (solo_quota input) member (records_at one.state member) one.log
      ≡ log_part (solo_quota input) member (records_at other.state member) other.log
  pub position : position_at one.state member ≡ position_at other.state member
  pub sets : SameSets input.plan member one.cache other.cache

-- in a window of the set also the clock, L1, the kernel's sets and the boxes addressed to the set
pub record SameInWindow (input : SoloInput) (one other : World) : Type 0 where
  pub clock : one.state.clock ≡ other.state.clock
  pub l1 : SameL1 one.cache other.cache
  pub kernel_sets : SameKernelSets one.cache other.cache
  pub boxes : SameBoxesTo (InSet input) one other

-- the world that was computed for a point of a run: its window, after as many ops as the run has
-- done in it
abbrev pub solo_here : SoloInput → List ℕ → List ℕ → ℕ → World
solo_here input scripts log count =
    let run = run_under input scripts log in
    solo_at input (windows_after run count) (ops_of run (windows_after run count) count)

-- at every point of a run, what the set sees is what was computed
pub record AgreesWithSolo (input : SoloInput) (scripts log : List ℕ) (count : ℕ) : Type 0 where
  pub members :
      (member : ℕ)
      → InSet input member
      → SameToMember input member (world_after (run_under input scripts log) count)
      (solo_here input scripts log count)
  pub in_a_window :
      InWindowOf (InSet input) (run_under input scripts log) count
      → SameInWindow input (world_after (run_under input scripts log) count)
      (solo_here input scripts log count)

-- of every list of calls under that plan, at its point: what it leaves is the world there
abbrev pub SoloAgreement : Type 0
SoloAgreement =
    (input : SoloInput) (list : CallList)
    → IsList list
    → list.plan ≡ input.plan
    → Matches input list.scripts list.log (point_of list)
    → AgreesWithSolo input list.scripts list.log (point_of list)
