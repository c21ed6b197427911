-- `pirkvezo_write_plan`: document 02's plan written back (E4), in numbers: what it returns and leaves,
-- for every input. Assumes nothing.
use Rattle.std.specs.Prelude.{ℕ, true, false, List}
use Rattle.writer.specs.Write.{WriteOutcome, write_of}
use Rattle.pirkvezo.specs.Answers.{answer_of, plan_fits, verdict_number, wrong_length}
use Rattle.pirkvezo.specs.Numbers.{plan_of}

-- the number returned, and the buffers after the call
pub record WriteCall : Type 0 where
  pub number : ℕ
  pub out : List ℕ
  pub answer : List ℕ

-- these as one
abbrev pub host_write_with : ℕ → List ℕ → List ℕ → WriteCall
host_write_with number out answer = record { number = number; out = out; answer = answer }

-- the answer's third number is how many bytes were written, 0 beside a refusal, and its fourth is 0
unfoldable pub write_done : WriteOutcome → List ℕ → WriteCall
write_done written answer =
    host_write_with (verdict_number written.verdict) written.out
    (answer_of written.verdict written.bytes 0 answer)

-- the call: the plan's and the answer's lengths first, then what is written for the plan that the
-- numbers stand for
unfoldable pub host_write : List ℕ → List ℕ → List ℕ → List ℕ → WriteCall
host_write plan scripts out answer =
    elim (plan_fits plan answer) [
      | false ↦ host_write_with (verdict_number wrong_length) out (answer_of wrong_length 0 0 answer)
      | true ↦ write_done (write_of (plan_of plan) scripts out) answer
    ]
