-- `pirkvezo_latest`: document 02's latest finish of a domain (E6), in numbers: what it returns and
-- leaves, for every input. Assumes nothing.
use Rattle.std.specs.Prelude.{ℕ, true, false, List}
use Rattle.latest.specs.Answer.{LatestOutcome, latest_of}
use Rattle.pirkvezo.specs.Answers.{answer_of, plan_fits, verdict_number, wrong_length}
use Rattle.pirkvezo.specs.Numbers.{plan_of}

-- the number returned, and the buffers after the call
pub record LatestCall : Type 0 where
  pub number : ℕ
  pub script : List ℕ
  pub answer : List ℕ

-- these as one
abbrev pub host_latest_with : ℕ → List ℕ → List ℕ → LatestCall
host_latest_with number script answer =
    record { number = number; script = script; answer = answer }

-- the answer's third number is the ticks, 0 beside a refusal, and its fourth is 0
unfoldable pub latest_done : LatestOutcome → List ℕ → LatestCall
latest_done found answer =
    host_latest_with (verdict_number found.verdict) found.script
    (answer_of found.verdict found.ticks 0 answer)

-- the call: the plan's and the answer's lengths first, then what is answered for the plan that the
-- numbers stand for
unfoldable pub host_latest : List ℕ → ℕ → List ℕ → List ℕ → LatestCall
host_latest plan domain script answer =
    elim (plan_fits plan answer) [
      | false ↦ host_latest_with (verdict_number wrong_length) script (answer_of wrong_length 0 0 answer)
      | true ↦ latest_done (latest_of (plan_of plan) domain script) answer
    ]
