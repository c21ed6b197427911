-- `pirkvezo_fresh_start`: document 01's fresh start ("Window, switch, run"), in numbers: what it
-- returns and leaves, for every input. Assumes nothing.
use Rattle.std.specs.Prelude.{ℕ, true, false, List}
use Rattle.engine.specs.FreshStart.{FreshOutcome, fresh_start_of}
use Rattle.pirkvezo.specs.Answers.{all_fit, answer_of, verdict_number, wrong_length}
use Rattle.pirkvezo.specs.Numbers.{plan_of, state_numbers, state_of}

-- the number returned, and the buffers after the call
pub record FreshCall : Type 0 where
  pub number : ℕ
  pub state : List ℕ
  pub cache : List ℕ
  pub boxes : List ℕ
  pub answer : List ℕ

-- these as one
abbrev pub host_fresh_with : ℕ → List ℕ → List ℕ → List ℕ → List ℕ → FreshCall
host_fresh_with number state cache boxes answer =
    record { number = number; state = state; cache = cache; boxes = boxes; answer = answer }

-- what the entry point answers and leaves, in numbers
unfoldable pub fresh_done : FreshOutcome → List ℕ → FreshCall
fresh_done fresh answer =
    host_fresh_with (verdict_number fresh.verdict) (state_numbers fresh.state) fresh.cache
    fresh.boxes (answer_of fresh.verdict 0 0 answer)

-- the call: lengths first, then what the entry point does
unfoldable pub host_fresh_start : List ℕ → List ℕ → List ℕ → List ℕ → List ℕ → FreshCall
host_fresh_start plan state cache boxes answer =
    elim (all_fit plan state answer) [
      | false ↦ host_fresh_with (verdict_number wrong_length) state cache boxes
          (answer_of wrong_length 0 0 answer)
      | true ↦ fresh_done (fresh_start_of (plan_of plan) (state_of state) cache boxes) answer
    ]
