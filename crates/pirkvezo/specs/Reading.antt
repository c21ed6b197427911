-- `pirkvezo_read_plan`: document 01's reading of "The plan text", in numbers: what it returns and
-- leaves, for every input. Assumes nothing.
use Rattle.std.specs.Prelude.{ℕ, true, false, List}
use Rattle.reader.specs.Read.{ReadOutcome, read_of}
use Rattle.pirkvezo.specs.Answers.{answer_of, verdict_number, plan_fits, wrong_length}
use Rattle.pirkvezo.specs.Numbers.{plan_numbers}

-- the number returned, and the buffers after the call
pub record ReadCall : Type 0 where
  pub number : ℕ
  pub scripts : List ℕ
  pub plan : List ℕ
  pub answer : List ℕ

-- these as one
abbrev pub host_read_with : ℕ → List ℕ → List ℕ → List ℕ → ReadCall
host_read_with number scripts plan answer =
    record { number = number; scripts = scripts; plan = plan; answer = answer }

-- the plan that is read, in numbers; all zeros beside a refused reading
unfoldable pub read_done : ReadOutcome → List ℕ → ReadCall
read_done read answer =
    host_read_with (verdict_number read.verdict) read.scripts (plan_numbers read.plan)
    (answer_of read.verdict 0 0 answer)

-- the call: lengths first, then what the entry point does
unfoldable pub host_read : List ℕ → List ℕ → List ℕ → List ℕ → ReadCall
host_read text scripts plan answer =
    elim (plan_fits plan answer) [
      | false ↦ host_read_with (verdict_number wrong_length) scripts plan (answer_of wrong_length 0 0 answer)
      | true ↦ read_done (read_of text scripts) answer
    ]
