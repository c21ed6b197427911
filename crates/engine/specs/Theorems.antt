-- Document 02, E3: how many steps a run answers at most, from a fresh start and in each window.
-- Assumes nothing.
use Rattle.std.specs.Prelude.{ℕ, ◌+◌, ◌≤◌, true, List, ◌≡◌, length, Ok}
use Rattle.plan.specs.declared.Plan.{Plan}
use Rattle.plan.specs.Sums.{sum_to}
use Rattle.plan.specs.Validity.{plan_valid}
use Rattle.plan.specs.Windows.{window_length, windows_total}
use Rattle.script.specs.Limits.{scripts_length}
use Rattle.bound.specs.Bound.{ops_stored, step_bound}
use Rattle.records.specs.Records.{part_records}
use Rattle.state.specs.World.{World}
use Rattle.machine.specs.Fresh.{fresh_world}
use Rattle.reachable.specs.StepCounts.{ops_run, window_steps}
use Rattle.engine.specs.Checks.{run_verdict}
use Rattle.engine.specs.declared.Ending.TheVariants.{Ended}
use Rattle.engine.specs.Running.{RunOutcome, run_call_of}

-- what a run right after a fresh start answers
abbrev pub run_from_fresh : Plan → List ℕ → List ℕ → ℕ → RunOutcome
run_from_fresh plan scripts log limit = run_call_of plan scripts (fresh_world log) limit

pub record FreshRunsBounded : Type 0 where
  -- it answers no more steps than the bound, whatever its limit, also where it is refused
  pub within :
      (plan : Plan) (scripts log : List ℕ) (limit : ℕ)
      → (run_from_fresh plan scripts log limit).steps ≤ step_bound plan scripts
  -- it answers *ended* where its limit is at least the bound
  pub ends :
      (plan : Plan) (scripts log : List ℕ) (limit : ℕ)
      → plan_valid plan ≡ true
      → length scripts ≡ scripts_length
      → step_bound plan scripts ≤ limit
      → (run_from_fresh plan scripts log limit).ending ≡ Ended
  -- each of its steps was an op or completed a window
  pub counted :
      (plan : Plan) (scripts log : List ℕ) (limit : ℕ)
      → (run_from_fresh plan scripts log limit).steps
      ≡ ops_run (run_from_fresh plan scripts log limit).world
      + (run_from_fresh plan scripts log limit).world.state.windows
  -- and there were no more of each kind than its part of the bound
  pub parts :
      (plan : Plan) (scripts log : List ℕ) (limit : ℕ)
      → (ops_run (run_from_fresh plan scripts log limit).world ≤ ops_stored scripts)
      × ((run_from_fresh plan scripts log limit).world.state.windows ≤ windows_total plan)

-- the steps of a run, on any world that it was lent, that fall into a window
abbrev pub steps_in_window : Plan → List ℕ → World → ℕ → ℕ → ℕ
steps_in_window plan scripts world limit window =
    window_steps plan scripts (part_records plan (length world.log)) window limit world

-- of every run that is not refused, from a fresh start or not
pub record WindowsBounded : Type 0 where
  -- no window takes more steps than its length and one, its switch among them
  pub each :
      (plan : Plan) (scripts : List ℕ) (world : World) (limit window : ℕ)
      → run_verdict plan scripts world ≡ Ok tt
      → steps_in_window plan scripts world limit window ≤ window_length plan window + 1
  -- and the steps of all windows are those that it answers
  pub together :
      (plan : Plan) (scripts : List ℕ) (world : World) (limit : ℕ)
      → run_verdict plan scripts world ≡ Ok tt
      → sum_to (steps_in_window plan scripts world limit) (windows_total plan)
      ≡ (run_call_of plan scripts world limit).steps
