-- What the entry point `run` answers is within the bounds. Assumes nothing.
use Rattle.std.specs.Prelude.{Ok, Err}
use Prim.Native.Nat.{ℕ, ◌+◌, ◌≤◌}
use mathlib.Core.List.{List}
use mathlib.Core.Path.{◌≡◌, refl, sym, ap, ◌∙◌}
use native.Mathlib.Omega.{arith}
use lib.ListN.{length}
use Rattle.plan.specs.declared.Plan.{Plan}
use Rattle.plan.specs.Sums.{sum_to}
use Rattle.plan.specs.Windows.{windows_total}
use Rattle.bound.specs.Bound.{ops_stored, step_bound}
use Rattle.records.specs.Records.{part_records}
use Rattle.state.specs.World.{fresh_state}
use Rattle.machine.specs.Fresh.{fresh_world}
use Rattle.machine.proofs.Schedule.{scheduled, valid_scheduled}
use Rattle.reachable.specs.StepCounts.{ops_run}
use Rattle.reachable.proofs.Ending.{ops_within, steps_are, steps_within}
use Rattle.reachable.proofs.WindowSteps.{all_windows, window_steps_lem}
use Rattle.engine.specs.Checks.{run_verdict}
use Rattle.engine.specs.Running.{ran_from, run_call_of, run_from}
use Rattle.engine.specs.Theorems.{FreshRunsBounded, WindowsBounded, run_from_fresh}
use Rattle.engine.proofs.FreshRuns.{fresh_run_ends}
use Rattle.engine.proofs.Verdicts.{run_accepted}
use Rattle.refusal.specs.Verdict.{Verdict}

-- ---- a run from a fresh start, refused or not

module _ (plan : Plan) (scripts log : List ℕ) (limit : ℕ) where
  within : (run_from_fresh plan scripts log limit).steps ≤ step_bound plan scripts
  unfolding run_call_of ran_from fresh_world
  within = go (run_verdict plan scripts (fresh_world log)) refl
    where
      go : (verdict : Verdict) → run_verdict plan scripts (fresh_world log) ≡ verdict
          → (run_from verdict plan scripts (fresh_world log) limit).steps ≤ step_bound plan scripts
      go (Ok tt) passed =
          steps_within plan scripts (part_records plan (length log)) (run_accepted plan scripts (fresh_world log) passed).possible limit log
      go (Err refusal) told = omega arith

  counted : (run_from_fresh plan scripts log limit).steps ≡ ops_run (run_from_fresh plan scripts log limit).world + (run_from_fresh plan scripts log limit).world.state.windows
  unfolding run_call_of ran_from fresh_world fresh_state sum_to
  counted = go (run_verdict plan scripts (fresh_world log)) refl
    where
      go : (verdict : Verdict) → run_verdict plan scripts (fresh_world log) ≡ verdict
          → (run_from verdict plan scripts (fresh_world log) limit).steps
          ≡ ops_run (run_from verdict plan scripts (fresh_world log) limit).world + (run_from verdict plan scripts (fresh_world log) limit).world.state.windows
      go (Ok tt) passed =
          steps_are plan scripts (part_records plan (length log)) (run_accepted plan scripts (fresh_world log) passed).possible limit log
      go (Err refusal) told = refl

  -- a refused run leaves the fresh world, in which nothing was run
  parts : (ops_run (run_from_fresh plan scripts log limit).world ≤ ops_stored scripts)
      × ((run_from_fresh plan scripts log limit).world.state.windows ≤ windows_total plan)
  unfolding run_call_of ran_from fresh_world fresh_state sum_to
  parts = go (run_verdict plan scripts (fresh_world log)) refl
    where
      go : (verdict : Verdict) → run_verdict plan scripts (fresh_world log) ≡ verdict
          → (ops_run (run_from verdict plan scripts (fresh_world log) limit).world ≤ ops_stored scripts)
          × ((run_from verdict plan scripts (fresh_world log) limit).world.state.windows ≤ windows_total plan)
      go (Ok tt) passed =
          let quota = part_records plan (length log) in
          let possible = (run_accepted plan scripts (fresh_world log) passed).possible in
          (ops_within plan scripts quota possible limit log, (scheduled plan scripts quota limit log possible).windows)
      go (Err refusal) told = (omega arith, omega arith)

pub fresh_runs_bounded : FreshRunsBounded
fresh_runs_bounded = record { within = within; ends = fresh_run_ends; counted = counted; parts = parts }

-- ---- any run that is not refused

pub windows_bounded : WindowsBounded
unfolding run_call_of ran_from
windows_bounded =
    record {
      each = λ plan scripts world limit window passed.
          let ok = run_accepted plan scripts world passed in
          let quota = part_records plan (length world.log) in
          window_steps_lem plan scripts quota window limit world (valid_scheduled plan quota world ok.possible ok.state_is).started;
      together = λ plan scripts world limit passed.
          all_windows plan scripts (part_records plan (length world.log)) limit world
          ∙ sym (ap (λ (verdict : Verdict). (run_from verdict plan scripts world limit).steps) passed);
    }
