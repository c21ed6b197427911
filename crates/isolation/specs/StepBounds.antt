-- Document 02, E3, of lists of calls: how many steps all calls of a list answer together. Assumes
-- nothing.
use Rattle.std.specs.Prelude.{ℕ, ◌+◌, ◌≤◌, List, [], ◌∷◌, ◌≡◌, length}
use Rattle.plan.specs.declared.Plan.{Plan}
use Rattle.plan.specs.Sums.{sum_to}
use Rattle.plan.specs.Windows.{window_length, windows_total}
use Rattle.script.specs.Limits.{scripts_length}
use Rattle.bound.specs.Bound.{step_bound}
use Rattle.state.specs.World.{World}
use Rattle.machine.specs.Fresh.{fresh_world}
use Rattle.reachable.specs.StepCounts.{ops_run}
use Rattle.engine.specs.declared.Ending.TheVariants.{Ended}
use Rattle.engine.specs.Theorems.{steps_in_window}
use Rattle.isolation.specs.Calls.{Call, CallList, IsList, OwnRun, RunThings, after_call}
use Rattle.isolation.specs.Calls.{leaves_of, log_call, log_status, point_of, run_answer, run_call}
use Rattle.isolation.specs.Calls.{start_world, step_answer, step_call}

module _ (plan : Plan) (scripts : List ℕ) where
  -- the number of steps in a call's answer. A refused call's is 0, and the two queries answer none.
  unfoldable pub steps_answered : Call → World → ℕ
  steps_answered (step_call things) world = (step_answer plan scripts things world).steps
  steps_answered (run_call things limit) world = (run_answer plan scripts things limit world).steps
  steps_answered (log_call things domain) world = 0
  steps_answered (log_status things domain) world = 0

  -- those of some calls together
  unfoldable pub answered_together : List Call → World → ℕ
  answered_together [] world = 0
  answered_together (call ∷ calls) world =
      steps_answered call world + answered_together calls (after_call plan scripts call world)

-- those of a list's calls
abbrev pub answered_by : CallList → ℕ
answered_by list = answered_together list.plan list.scripts list.calls (start_world list)

-- the steps of a list's run that fall into a window
abbrev pub list_steps_in : CallList → ℕ → ℕ
list_steps_in list window =
    steps_in_window list.plan list.scripts (fresh_world list.log) (point_of list) window

pub record ListBounded (list : CallList) : Type 0 where
  -- together its calls answer no more steps than the bound
  pub within : answered_by list ≤ step_bound list.plan list.scripts
  -- each of them was an op or completed a window
  pub counted : answered_by list ≡ ops_run (leaves_of list) + (leaves_of list).state.windows
  -- one more running, on the list's own things, answers *ended* where its limit is at least what the
  -- list has left of the bound
  pub ends :
      (things : RunThings) (limit : ℕ)
      → OwnRun things
      → length list.scripts ≡ scripts_length
      → step_bound list.plan list.scripts ≤ answered_by list + limit
      → (run_answer list.plan list.scripts things limit (leaves_of list)).ending ≡ Ended
  -- no window of its run takes more steps than its length and one, over however many calls
  pub each : (window : ℕ) → list_steps_in list window ≤ window_length list.plan window + 1
  -- and the steps of all windows are those that its calls answer
  pub together : sum_to (list_steps_in list) (windows_total list.plan) ≡ answered_by list

-- of every list whose fresh start was not refused
abbrev pub ListsBounded : Type 0
ListsBounded = (list : CallList) → IsList list → ListBounded list
