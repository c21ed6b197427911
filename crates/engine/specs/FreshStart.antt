-- Document 01, "Window, switch, run": a fresh start. Assumes nothing.
use Rattle.std.specs.Prelude.{ℕ, List, Ok, Err}
use Rattle.plan.specs.declared.Plan.{Plan}
use Rattle.cache.specs.Lines.{empty_table}
use Rattle.ops.specs.Ops.{empty_boxes}
use Rattle.state.specs.declared.State.{State}
use Rattle.state.specs.World.{fresh_state}
use Rattle.engine.specs.Checks.{fresh_verdict}
use Rattle.refusal.specs.Verdict.{Verdict}

-- what a fresh start answers and leaves
pub record FreshOutcome : Type 0 where
  pub verdict : Verdict
  pub state : State
  pub cache : List ℕ
  pub boxes : List ℕ

-- where it is not refused, state, cache table and boxes are all zeros; a refused one leaves them
abbrev pub fresh_from : Verdict → State → List ℕ → List ℕ → FreshOutcome
fresh_from (Ok tt) state cache boxes =
    record { verdict = Ok tt; state = fresh_state; cache = empty_table; boxes = empty_boxes }
fresh_from (Err refusal) state cache boxes = record { verdict = Err refusal; state = state; cache = cache; boxes = boxes }

-- a fresh start, for every input
unfoldable pub fresh_start_of : Plan → State → List ℕ → List ℕ → FreshOutcome
fresh_start_of plan state cache boxes = fresh_from (fresh_verdict plan cache boxes) state cache boxes
