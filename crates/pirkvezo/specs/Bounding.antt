-- `pirkvezo_step_bound`: document 02's bound on a run's steps (E3), in numbers: what it returns and
-- leaves, for every input. Assumes nothing.
use Rattle.std.specs.Prelude.{ℕ, true, false, List}
use Rattle.bound.specs.Bound.{BoundAnswer}
use Rattle.bound.specs.Bound.{bound_answer_of}
use Rattle.pirkvezo.specs.Answers.{answer_of, plan_fits, verdict_number, wrong_length}
use Rattle.pirkvezo.specs.Numbers.{plan_of}

-- the number returned, and the answer after the call
pub record BoundCall : Type 0 where
  pub number : ℕ
  pub answer : List ℕ

-- these as one
abbrev pub host_bound_with : ℕ → List ℕ → BoundCall
host_bound_with number answer = record { number = number; answer = answer }

-- the answer's third number is the bound, 0 beside a refusal, and its fourth is 0
unfoldable pub bound_done : BoundAnswer → List ℕ → BoundCall
bound_done found answer =
    host_bound_with (verdict_number found.verdict) (answer_of found.verdict found.steps 0 answer)

-- the call: the plan's and the answer's lengths first, then what is answered for the plan that the
-- numbers stand for
unfoldable pub host_bound : List ℕ → List ℕ → List ℕ → BoundCall
host_bound plan scripts answer =
    elim (plan_fits plan answer) [
      | false ↦ host_bound_with (verdict_number wrong_length) (answer_of wrong_length 0 0 answer)
      | true ↦ bound_done (bound_answer_of (plan_of plan) scripts) answer
    ]
