-- Document 02, E3, of the library's C functions: how many steps a host's calls answer together.
-- Assumes nothing.
use Rattle.std.specs.Prelude.{ℕ, ◌+◌, ◌≤◌, cond, List, [], ◌∷◌, ◌≡◌, length}
use Rattle.plan.specs.Limits.{most_domains}
use Rattle.plan.specs.Sums.{sum_to}
use Rattle.plan.specs.Windows.{window_length, windows_total}
use Rattle.script.specs.Limits.{scripts_length}
use Rattle.bound.specs.Bound.{step_bound}
use Rattle.state.specs.World.{position_at}
use Rattle.machine.specs.Fresh.{fresh_world}
use Rattle.engine.specs.Theorems.{steps_in_window}
use Rattle.pirkvezo.specs.Answers.{answer_length, fourth_of, third_of}
use Rattle.pirkvezo.specs.Bounding.{BoundCall, host_bound}
use Rattle.pirkvezo.specs.Numbers.{plan_of, state_of}
use Rattle.pirkvezo.specs.Running.{RunCall}
use Rattle.host.specs.Calls.{Arrays, HostCall, HostList, IsHostList, OwnRunArrays, RunArrays}
use Rattle.host.specs.Calls.{after_host_call, arrays_left, host_log_call, host_point_of, host_run_call}
use Rattle.host.specs.Calls.{host_step_call, is_refusal, run_return, start_arrays, step_return}

-- the steps that a step or a run answers: its answer's third number where it returns 0. A refused
-- call counts none, whatever its answer array holds.
abbrev pub steps_told : RunCall → ℕ
steps_told call = cond (is_refusal call.number) 0 (third_of call.answer)

module _ (plan scripts : List ℕ) where
  -- of any call: a log query's third number is no number of steps
  unfoldable pub host_steps_answered : HostCall → Arrays → ℕ
  host_steps_answered (host_step_call arrays) held = steps_told (step_return plan scripts arrays held)
  host_steps_answered (host_run_call arrays limit) held =
      steps_told (run_return plan scripts arrays limit held)
  host_steps_answered (host_log_call arrays domain) held = 0

  -- of some calls together
  unfoldable pub host_answered_together : List HostCall → Arrays → ℕ
  host_answered_together [] held = 0
  host_answered_together (call ∷ calls) held =
      host_steps_answered call held
      + host_answered_together calls (after_host_call plan scripts call held)

-- of a list's calls
abbrev pub host_answered_by : HostList → ℕ
host_answered_by list =
    host_answered_together list.plan list.scripts list.calls (start_arrays list)

-- what `pirkvezo_step_bound` returns and leaves for a list's own plan array and script store
abbrev pub bound_return : HostList → List ℕ → BoundCall
bound_return list answer = host_bound list.plan list.scripts answer

-- the bound that it tells
abbrev pub bound_told : HostList → List ℕ → ℕ
bound_told list answer = third_of (bound_return list answer).answer

-- the steps of a list's run that fall into a window
abbrev pub host_steps_in : HostList → ℕ → ℕ
host_steps_in list window =
    steps_in_window (plan_of list.plan) list.scripts (fresh_world list.log) (host_point_of list)
    window

pub record HostListBounded (list : HostList) : Type 0 where
  -- each of the steps that its calls answer together was an op or completed a window
  pub counted :
      host_answered_by list
      ≡ sum_to (position_at (state_of (arrays_left list).state)) most_domains
      + (state_of (arrays_left list).state).windows
  -- `pirkvezo_step_bound` returns 0, with an answer array of four numbers and a script store of
  -- 2,048
  pub asked :
      (answer : List ℕ)
      → length answer ≡ answer_length
      → length list.scripts ≡ scripts_length
      → (bound_return list answer).number ≡ 0
  -- where it does, it tells the bound of the plan that the array stands for
  pub told :
      (answer : List ℕ)
      → (bound_return list answer).number ≡ 0
      → bound_told list answer ≡ step_bound (plan_of list.plan) list.scripts
  -- and the list's calls together answer no more steps than that
  pub within :
      (answer : List ℕ)
      → (bound_return list answer).number ≡ 0
      → host_answered_by list ≤ bound_told list answer
  -- and one more run on the list's own arrays, whose limit is at least what is left of it, answers
  -- that the run has ended
  pub ends :
      (answer : List ℕ)
      → (bound_return list answer).number ≡ 0
      → (arrays : RunArrays) (limit : ℕ)
      → OwnRunArrays arrays
      → length arrays.answer ≡ answer_length
      → bound_told list answer ≤ host_answered_by list + limit
      → fourth_of (run_return list.plan list.scripts arrays limit (arrays_left list)).answer ≡ 1
  -- no window of the list's run takes more steps than its length and one
  pub each : (window : ℕ) → host_steps_in list window ≤ window_length (plan_of list.plan) window + 1
  -- and the steps of all windows are those that the list's calls answer
  pub together : sum_to (host_steps_in list) (windows_total (plan_of list.plan)) ≡ host_answered_by list

-- of every list whose fresh start returned 0
abbrev pub HostListsBounded : Type 0
HostListsBounded = (list : HostList) → IsHostList list → HostListBounded list
