-- Document 02, E4: what writing and reading are to each other, for every plan and scripts; what is left of the
-- buffer; and when 12 and 17 are told. Assumes nothing.
use Rattle.std.specs.Prelude.{ℕ, ◌≤◌, ◌<◌, true, List, ◌↔◌, ◌≡◌, drop, length, take, Ok, Err}
use Rattle.lexer.specs.Scan.{all_bytes}
use Rattle.plan.specs.declared.Plan.{Plan}
use Rattle.script.specs.Limits.{scripts_length}
use Rattle.reader.specs.Read.{ReadOutcome, read_of}
use Rattle.refusal.specs.declared.Refusal.TheVariants.{BufferTooShort, ImpossiblePlan}
use Rattle.writer.specs.Write.{WriteOutcome, write_of, write_with}
use Rattle.roundtrip.specs.Accepted.{Shaped, is_byte}

-- the bytes that a call has written: the first ones of the buffer, as many as it answers
abbrev pub output : WriteOutcome → List ℕ
output written = take written.bytes written.out

-- what reading gives where nothing is refused
abbrev pub gave : Plan → List ℕ → ReadOutcome
gave plan scripts = record { verdict = Ok tt; plan = plan; scripts = scripts }

-- ---- the output is read back

-- what is written, read into any script store of 2,048 numbers, is accepted with 0, 0 and gives the plan and the
-- scripts that were written
abbrev pub ReadBack : Type 0
ReadBack =
    (plan : Plan) (scripts out store : List ℕ)
    → Shaped plan
    → length store ≡ scripts_length
    → (write_of plan scripts out).verdict ≡ Ok tt
    → read_of (output (write_of plan scripts out)) store ≡ gave plan scripts

-- ---- every accepted text is written back

-- what an accepted text gives is written into every buffer that is as long as the text, or longer
abbrev pub WrittenBack : Type 0
WrittenBack =
    (text store out : List ℕ)
    → (read_of text store).verdict ≡ Ok tt
    → length text ≤ length out
    → (write_of (read_of text store).plan (read_of text store).scripts out).verdict ≡ Ok tt

-- ---- the buffer

-- whatever is answered: the bytes told are within the buffer, and past them it holds what it held
abbrev pub RestKept : Type 0
RestKept =
    (plan : Plan) (scripts out : List ℕ)
    → ((write_of plan scripts out).bytes ≤ length out)
    × (drop (write_of plan scripts out).bytes (write_of plan scripts out).out ≡ drop (write_of plan scripts out).bytes out)

-- what is written into one buffer is refused with 17, and with the number of its bytes, where another is shorter
-- than that
abbrev pub SeventeenTold : Type 0
SeventeenTold =
    (plan : Plan) (scripts out enough : List ℕ)
    → (write_of plan scripts enough).verdict ≡ Ok tt
    → length out < (write_of plan scripts enough).bytes
    → write_of plan scripts out ≡ write_with (Err (BufferTooShort (write_of plan scripts enough).bytes)) 0 out

-- ---- one text for each plan with its scripts

-- a text was accepted, and what it gave was written
pub record ReadAndWritten (text store out : List ℕ) : Type 0 where
  pub read : (read_of text store).verdict ≡ Ok tt
  pub wrote : (write_of (read_of text store).plan (read_of text store).scripts out).verdict ≡ Ok tt

-- the bytes that were written for it
abbrev pub rewritten : List ℕ → List ℕ → List ℕ → List ℕ
rewritten text store out = output (write_of (read_of text store).plan (read_of text store).scripts out)

-- the outputs for two accepted texts are equal exactly when the texts give one plan and one store of scripts
abbrev pub OneText : Type 0
OneText =
    (text store out text' store' out' : List ℕ)
    → ReadAndWritten text store out
    → ReadAndWritten text' store' out'
    → (rewritten text store out ≡ rewritten text' store' out')
    ↔ (((read_of text store).plan ≡ (read_of text' store').plan) × ((read_of text store).scripts ≡ (read_of text' store').scripts))

-- what the output gives is written once more wherever there is room, and byte by byte as before
abbrev pub Repeats : Type 0
Repeats =
    (plan : Plan) (scripts out store out' : List ℕ)
    → Shaped plan
    → length store ≡ scripts_length
    → (write_of plan scripts out).verdict ≡ Ok tt
    → (write_of plan scripts out).bytes ≤ length out'
    → ReadAndWritten (output (write_of plan scripts out)) store out'
    × (rewritten (output (write_of plan scripts out)) store out' ≡ output (write_of plan scripts out))

-- ---- 12, exactly

-- an accepted text gives this plan and these scripts, read into some script store
pub record GivenBoth (plan : Plan) (scripts : List ℕ) : Type 0 where
  pub text : List ℕ
  pub bytes : all_bytes is_byte text ≡ true
  pub store : List ℕ
  pub reads : read_of text store ≡ gave plan scripts

-- past 11, 12 is told where no accepted text gives the pair, and nowhere else, whatever buffer is lent
pub record TwelveExactly (plan : Plan) (scripts out : List ℕ) : Type 0 where
  pub told :
      length scripts ≡ scripts_length
      → (GivenBoth plan scripts → ⊥)
      → (write_of plan scripts out).verdict ≡ Err ImpossiblePlan
  pub only : (write_of plan scripts out).verdict ≡ Err ImpossiblePlan → GivenBoth plan scripts → ⊥

abbrev pub TwelveTold : Type 0
TwelveTold = (plan : Plan) (scripts out : List ℕ) → Shaped plan → TwelveExactly plan scripts out
