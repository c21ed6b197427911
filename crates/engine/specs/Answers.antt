-- Document 01, "Window, switch, run": what the code of an entry point answers, with the buffers after the call, as one
-- record of the definitions. Assumes nothing.
use Rattle.std.specs.Prelude.{ℕ, List, Result, Ok, Err}
use Rattle.state.specs.World.{World}
use Rattle.machine.specs.View.{world_with}
use Rattle.engine.specs.declared.Answer.{Answer}
use Rattle.engine.specs.declared.Ending.{Ending}
use Rattle.engine.specs.declared.Ending.TheVariants.{Stopped}
use Rattle.state.specs.declared.State.{State}
use Rattle.engine.specs.FreshStart.{FreshOutcome}
use Rattle.engine.specs.Running.{RunOutcome}
use Rattle.refusal.specs.declared.Refusal.{Refusal}
use Rattle.refusal.specs.Verdict.{Verdict}

-- four things as one answer
abbrev pub answered : Verdict → ℕ → Ending → World → RunOutcome
answered verdict steps ending world = record { verdict = verdict; steps = steps; ending = ending; world = world }

-- a run's answer, with the state and the tables that are left beside it
abbrev pub run_with : Result Answer Refusal → State → List ℕ → List ℕ → List ℕ → RunOutcome
run_with (Ok answer) state cache boxes log =
    answered (Ok tt) answer.steps answer.ending (world_with state cache boxes log)
run_with (Err refusal) state cache boxes log =
    answered (Err refusal) 0 Stopped (world_with state cache boxes log)

-- a fresh start's answer, with the tables that are left beside it; a refused one leaves the state
abbrev pub fresh_with : Result State Refusal → State → List ℕ → List ℕ → FreshOutcome
fresh_with (Ok fresh) state cache boxes = record { verdict = Ok tt; state = fresh; cache = cache; boxes = boxes }
fresh_with (Err refusal) state cache boxes = record { verdict = Err refusal; state = state; cache = cache; boxes = boxes }
