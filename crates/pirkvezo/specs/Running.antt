-- `pirkvezo_run` and `pirkvezo_step`: running and the single step of document 01, "Window, switch,
-- run", in numbers: what they return and leave, for every input. Assumes nothing.
use Rattle.std.specs.Prelude.{ℕ, true, false, List}
use Rattle.plan.specs.declared.Plan.{Plan}
use Rattle.state.specs.World.{World}
use Rattle.engine.specs.Running.{RunOutcome, ending_number, run_call_of, step_call_of}
use Rattle.machine.specs.View.{world_with}
use Rattle.pirkvezo.specs.Answers.{all_fit, answer_of, verdict_number, wrong_length}
use Rattle.pirkvezo.specs.Numbers.{plan_of, state_numbers, state_of}

-- the number returned, and the buffers after the call
pub record RunCall : Type 0 where
  pub number : ℕ
  pub state : List ℕ
  pub cache : List ℕ
  pub boxes : List ℕ
  pub log : List ℕ
  pub answer : List ℕ

-- these as one
abbrev pub host_run_with : ℕ → List ℕ → List ℕ → List ℕ → List ℕ → List ℕ → RunCall
host_run_with number state cache boxes log answer =
    record {
      number = number;
      state = state;
      cache = cache;
      boxes = boxes;
      log = log;
      answer = answer;
    }

-- an answer's third and fourth number: the steps done, and 1 for ended, 0 for stopped
unfoldable pub run_done : RunOutcome → List ℕ → RunCall
run_done run answer =
    host_run_with (verdict_number run.verdict) (state_numbers run.world.state)
    run.world.cache run.world.boxes run.world.log
    (answer_of run.verdict run.steps (ending_number run.ending) answer)

-- any running, by what its entry point does with a plan and a world: lengths first
unfoldable pub host_run_by :
    (Plan → World → RunOutcome) → List ℕ → List ℕ → List ℕ → List ℕ → List ℕ → List ℕ → RunCall
host_run_by run plan state cache boxes log answer =
    elim (all_fit plan state answer) [
      | false ↦ host_run_with (verdict_number wrong_length) state cache boxes log
          (answer_of wrong_length 0 0 answer)
      | true ↦ run_done (run (plan_of plan) (world_with (state_of state) cache boxes log)) answer
    ]

-- running with a limit
unfoldable pub host_run :
    List ℕ → List ℕ → List ℕ → List ℕ → List ℕ → List ℕ → ℕ → List ℕ → RunCall
host_run plan scripts state cache boxes log limit answer =
    host_run_by (λ (lent : Plan) (world : World). run_call_of lent scripts world limit)
    plan state cache boxes log answer

-- a single step
unfoldable pub host_step : List ℕ → List ℕ → List ℕ → List ℕ → List ℕ → List ℕ → List ℕ → RunCall
host_step plan scripts state cache boxes log answer =
    host_run_by (λ (lent : Plan) (world : World). step_call_of lent scripts world)
    plan state cache boxes log answer
