-- Document 01, "Two lists of calls": the points of a run, its windows so far with their starts and
-- their ops, and the boxes addressed to a domain. Assumes nothing.
use Rattle.std.specs.Prelude.{ℕ, zero, suc, ◌+◌, ◌<◌, Bool, cond, ◌&&◌, List, ◌≡◌, eqb, ltb, get_or}
use Rattle.plan.specs.declared.Plan.{Plan}
use Rattle.plan.specs.Limits.{most_domains}
use Rattle.plan.specs.Sums.{sum_to}
use Rattle.plan.specs.Windows.{window_owner, windows_total}
use Rattle.ops.specs.Ops.{box_index}
use Rattle.state.specs.World.{World}
use Rattle.machine.specs.Fresh.{reached_world}

-- a run from a fresh start, by what decides it: a plan, a script store and a log
pub record FreshRun : Type 0 where
  pub plan : Plan
  pub scripts : List ℕ
  pub log : List ℕ

-- the world after its first `count` steps
unfoldable pub world_after : FreshRun → ℕ → World
world_after run count = reached_world run.plan run.scripts run.log count

-- the windows completed by then
abbrev pub windows_after : FreshRun → ℕ → ℕ
windows_after run count = (world_after run count).state.windows

-- after `count` steps a window has just started: for the first time as many windows are completed
-- as come before it. That is the fresh start, or right after a switch.
pub record Starts (run : FreshRun) (window count : ℕ) : Type 0 where
  pub reached : windows_after run count ≡ window
  pub first : (earlier : ℕ) → earlier < count → windows_after run earlier < window

-- the step after the first `count` is an op of a window: it begins and ends in that window, of a
-- run that has not ended
abbrev pub is_op_of : FreshRun → ℕ → ℕ → Bool
is_op_of run window count =
    ltb window (windows_total run.plan)
    && eqb (windows_after run count) window
    && eqb (windows_after run (suc count)) window

-- a window's ops within the first `count` steps: those done from its start to its own switch, or so
-- far
unfoldable pub ops_of : FreshRun → ℕ → ℕ → ℕ
ops_of run window zero = 0
ops_of run window (suc count) = ops_of run window count + cond (is_op_of run window count) 1 0

-- the ops of a domain's windows so far, all together
abbrev pub ops_for : FreshRun → ℕ → ℕ → ℕ → ℕ
ops_for run domain count window =
    cond (eqb (window_owner run.plan window) domain) (ops_of run window count) 0

unfoldable pub ops_of_domain : FreshRun → ℕ → ℕ → ℕ
ops_of_domain run domain count = sum_to (ops_for run domain count) (suc (windows_after run count))

-- after `count` steps a run is in a window of a domain that a predicate names
pub record InWindowOf (Named : ℕ → Type 0) (run : FreshRun) (count : ℕ) : Type 0 where
  pub not_ended : windows_after run count < windows_total run.plan
  pub owner : Named (window_owner run.plan (windows_after run count))

-- the boxes addressed to a domain are the eight at 8a + its number: those addressed to named
-- domains are equal
abbrev pub SameBoxesTo : (ℕ → Type 0) → World → World → Type 0
SameBoxesTo Named one other =
    (sender recipient : ℕ)
    → sender < most_domains
    → Named recipient
    → get_or one.boxes (box_index sender recipient) 0
    ≡ get_or other.boxes (box_index sender recipient) 0
