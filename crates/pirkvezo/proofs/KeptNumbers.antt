-- `pirkvezo_run_kept` in numbers is `pirkvezo_run` with one domain's part for the log. Assumes nothing.
use mathlib.Core.Bool.{Bool, true, false}
use mathlib.Core.Path.{◌≡◌, refl, ap}
use Rattle.records.specs.Records.{log_part}
use Rattle.machine.specs.View.{world_with}
use Rattle.engine.specs.Running.{RunOutcome}
use Rattle.engine.proofs.KeptCalls.{kept_calls_alike}
use Rattle.pirkvezo.specs.Answers.{all_fit}
use Rattle.pirkvezo.specs.Keeping.{KeptNumbersAlike, host_run_kept, kept_numbers}
use Rattle.pirkvezo.specs.Numbers.{plan_of, state_of}
use Rattle.pirkvezo.specs.Running.{host_run, host_run_by, run_done}

pub kept_numbers_alike : KeptNumbersAlike
unfolding host_run_kept host_run host_run_by run_done
kept_numbers_alike plan scripts state cache boxes log domain quota limit answer declared parts = go (all_fit plan state answer) refl
  where
    go : (fit : Bool) → all_fit plan state answer ≡ fit
        → host_run_kept plan scripts state cache boxes (log_part quota domain quota log) domain quota limit answer
        ≡ kept_numbers quota domain (host_run plan scripts state cache boxes log limit answer)
    go false unfit = rw (unfit, host_run_by) refl
    go true fit =
        rw (fit, host_run_by)
        (ap (λ (run : RunOutcome). run_done run answer)
        (kept_calls_alike (plan_of plan) scripts (world_with (state_of state) cache boxes log) limit domain quota declared parts))
