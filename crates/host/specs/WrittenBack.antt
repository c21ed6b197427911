-- Document 02, E4, of the library's C functions: what a text left in a host's arrays is written back, and read
-- again. Assumes nothing.
use Rattle.std.specs.Prelude.{ℕ, ◌≤◌, List, [], ◌∷◌, ◌↔◌, ◌≡◌, drop, length, take}
use Rattle.script.specs.Limits.{scripts_length}
use Rattle.pirkvezo.specs.Answers.{answer_length, third_of}
use Rattle.pirkvezo.specs.Numbers.{plan_length}
use Rattle.pirkvezo.specs.Reading.{host_read, host_read_with}
use Rattle.pirkvezo.specs.Writing.{WriteCall, host_write}
use Rattle.host.specs.Calls.{ReadArrays, read_return}

-- what `pirkvezo_write_plan` returns and leaves for the plan array and the script store that a reading left
abbrev pub write_return : ReadArrays → List ℕ → List ℕ → WriteCall
write_return arrays out answer = host_write (read_return arrays).plan (read_return arrays).scripts out answer

-- the bytes that it tells, its answer's third number
abbrev pub bytes_told : ReadArrays → List ℕ → List ℕ → ℕ
bytes_told arrays out answer = third_of (write_return arrays out answer).answer

-- and the buffer up to there
abbrev pub text_written : ReadArrays → List ℕ → List ℕ → List ℕ
text_written arrays out answer = take (bytes_told arrays out answer) (write_return arrays out answer).out

pub record PlanWrittenBack (arrays : ReadArrays) (out answer : List ℕ) : Type 0 where
  -- it returns 0, and tells no more bytes than the text that was read has
  pub written : (write_return arrays out answer).number ≡ 0
  pub short : bytes_told arrays out answer ≤ length arrays.text
  -- past them the buffer holds what it held
  pub kept : drop (bytes_told arrays out answer) (write_return arrays out answer).out ≡ drop (bytes_told arrays out answer) out
  -- they are read, into any arrays of the right lengths, as the same plan array and script store
  pub again :
      (scripts plan told : List ℕ)
      → length scripts ≡ scripts_length
      → length plan ≡ plan_length
      → length told ≡ answer_length
      → host_read (text_written arrays out answer) scripts plan told
      ≡ host_read_with 0 (read_return arrays).scripts (read_return arrays).plan (0 ∷ 0 ∷ 0 ∷ 0 ∷ [])

-- of every text that was read with 0, a buffer as long as the text and an answer of four numbers
abbrev pub PlansWrittenBack : Type 0
PlansWrittenBack =
    (arrays : ReadArrays) (out answer : List ℕ)
    → (read_return arrays).number ≡ 0
    → length answer ≡ answer_length
    → length arrays.text ≤ length out
    → PlanWrittenBack arrays out answer

-- the texts written for two such texts are equal exactly when the plan arrays and the script stores are
abbrev pub SameTexts : Type 0
SameTexts =
    (arrays arrays' : ReadArrays) (out answer out' answer' : List ℕ)
    → (read_return arrays).number ≡ 0
    → (read_return arrays').number ≡ 0
    → (write_return arrays out answer).number ≡ 0
    → (write_return arrays' out' answer').number ≡ 0
    → (text_written arrays out answer ≡ text_written arrays' out' answer')
    ↔ (((read_return arrays).plan ≡ (read_return arrays').plan) × ((read_return arrays).scripts ≡ (read_return arrays').scripts))
