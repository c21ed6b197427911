-- A plan that a host's call read is written back by another, and read again. Assumes nothing.
use Rattle.std.specs.Prelude.{Ok}
use Prim.Native.Nat.{ℕ}
use native.Mathlib.Omega.{arith}
use mathlib.Core.Bool.{true}
use mathlib.Core.List.{List}
use mathlib.Core.Logic.{◌↔◌}
use mathlib.Core.Path.{◌≡◌, refl, sym, ap, ap₂, ◌∙◌}
use lib.ListN.{drop, length, take}
use borrow.Author.Tests.{eq-eqb}
use Rattle.lists.proofs.Tests.{both_pass}
use Rattle.plan.specs.declared.Plan.{Plan}
use Rattle.reader.specs.Read.{ReadOutcome}
use Rattle.writer.specs.Write.{WriteOutcome, write_of}
use Rattle.roundtrip.specs.Theorems.{rewritten}
use Rattle.shortest.proofs.Shortest.{none_shorter}
use Rattle.roundtrip.proofs.Writable.{read_shaped, wrote as wrote-facts}
use Rattle.roundtrip.proofs.WrittenBack.{one_text, reads_back, rest_kept, written_back_lem}
use Rattle.pirkvezo.specs.Answers.{answer_length, answer_of, plan_fits, third_of, verdict_number, wrong_length}
use Rattle.pirkvezo.specs.Numbers.{numbers_from, plan_length, plan_numbers, plan_of}
use Rattle.pirkvezo.specs.Reading.{host_read, read_done}
use Rattle.pirkvezo.specs.Writing.{WriteCall, host_write, host_write_with, write_done}
use Rattle.pirkvezo.proofs.Calls.{read_lengths}
use Rattle.pirkvezo.proofs.ReadBack.{read_back}
use Rattle.host.specs.Calls.{ReadArrays, is_refusal, read_return}
use Rattle.host.specs.WrittenBack.{PlansWrittenBack, SameTexts, bytes_told, text_written, write_return}
use Rattle.host.proofs.Calls.{fitting}
use Rattle.host.proofs.StepBounds.{third_is}
use Rattle.host.proofs.Texts.{not_refused, plan_left, reading_of, scripts_left_lem, text_accepted}

-- the plan's and the answer's lengths are right
fits : (plan answer : List ℕ) → length plan ≡ plan_length → length answer ≡ answer_length → plan_fits plan answer ≡ true
fits plan answer long four = both_pass _ _ (eq-eqb (length plan) plan_length long) (eq-eqb (length answer) answer_length four)

numbers_long : (plan : Plan) → length (plan_numbers plan) ≡ plan_length
unfolding plan_numbers numbers_from
numbers_long plan = refl

module _ (arrays : ReadArrays) (out answer : List ℕ) (none : (read_return arrays).number ≡ 0) (four : length answer ≡ answer_length) where
  abbrev plan : Plan
  plan = (reading_of arrays).plan

  abbrev scripts : List ℕ
  scripts = (reading_of arrays).scripts

  -- the writer behind the call
  abbrev wrote : WriteOutcome
  wrote = write_of plan scripts out

  call_is : write_return arrays out answer ≡ write_done wrote answer
  unfolding host_write
  call_is =
      let fit = fits (plan_numbers plan) answer (numbers_long plan) four in
      ap₂ (λ (lent store : List ℕ). host_write lent store out answer) (plan_left arrays none) (scripts_left_lem arrays none)
      ∙ rw (fit, host_write) (ap (λ (p : Plan). write_done (write_of p scripts out) answer) (read_back arrays.text arrays.scripts))

  bytes_are : bytes_told arrays out answer ≡ wrote.bytes
  unfolding write_done
  bytes_are = ap (λ (call : WriteCall). third_of call.answer) call_is ∙ third_is wrote.verdict wrote.bytes 0 answer four

  out_is : (write_return arrays out answer).out ≡ wrote.out
  unfolding write_done
  out_is = ap (λ (call : WriteCall). call.out) call_is

  text_is : text_written arrays out answer ≡ rewritten arrays.text arrays.scripts out
  text_is = ap₂ (λ (count : ℕ) (buffer : List ℕ). take count buffer) bytes_are out_is

  -- it returned 0, so the writer accepted
  wrote_accepted : (write_return arrays out answer).number ≡ 0 → wrote.verdict ≡ Ok tt
  unfolding write_done
  wrote_accepted returned = not_refused wrote.verdict (ap is_refusal (sym (ap (λ (call : WriteCall). call.number) call_is) ∙ returned))

-- a call that returned 0 was handed an answer of four numbers
answer_four : (arrays : ReadArrays) (out answer : List ℕ) → (write_return arrays out answer).number ≡ 0 → length answer ≡ answer_length
unfolding host_write
answer_four arrays out answer returned =
    let lent = (read_return arrays).plan in
    let store = (read_return arrays).scripts in
    let fit =
    (fitting (λ (call : WriteCall). call.number) (plan_fits lent answer)
    (host_write_with (verdict_number wrong_length) out (answer_of wrong_length 0 0 answer))
    (write_done (write_of (plan_of lent) store out) answer) refl (ap is_refusal returned)).0 in
    (read_lengths lent answer fit).1

pub plans_written_back : PlansWrittenBack
unfolding host_read read_done write_done answer_of
plans_written_back arrays out answer none four room =
    let accepted = text_accepted arrays none in
    let text = arrays.text in
    let plan = (reading_of arrays).plan in
    let scripts = (reading_of arrays).scripts in
    let verdict = written_back_lem text arrays.scripts out accepted room in
    let done = wrote-facts plan scripts out verdict in
    let bytes = bytes_are arrays out answer none four in
    record {
      written = ap (λ (call : WriteCall). call.number) (call_is arrays out answer none four) ∙ ap verdict_number verdict;
      short = omega (arith, bytes, done.bytes_are, none_shorter text arrays.scripts accepted);
      kept =
          ap₂ (λ (count : ℕ) (buffer : List ℕ). drop count buffer) bytes (out_is arrays out answer none four)
          ∙ (rest_kept plan scripts out).1
          ∙ ap (λ (count : ℕ). drop count out) (sym bytes);
      again =
          λ store numbers told long lent given.
          let read = reads_back plan scripts out store (read_shaped text arrays.scripts accepted) long verdict in
          rw (fits numbers told lent given, host_read, text_is arrays out answer none four, plan_left arrays none, scripts_left_lem arrays none)
          (ap (λ (outcome : ReadOutcome). read_done outcome told) read ∙ rw (eq-eqb (length told) answer_length given) refl);
    }

pub same_texts : SameTexts
same_texts arrays arrays' out answer out' answer' none none' returned returned' = (
  λ same.
      let gives = equal.0 (sym (text_is arrays out answer none four) ∙ same ∙ text_is arrays' out' answer' none' four') in
      (plan_left arrays none ∙ ap plan_numbers gives.0 ∙ sym (plan_left arrays' none'), scripts_left_lem arrays none ∙ gives.1 ∙ sym (scripts_left_lem arrays' none')),
  λ same.
      let plans = sym (read_back arrays.text arrays.scripts) ∙ ap plan_of (sym (plan_left arrays none) ∙ same.0 ∙ plan_left arrays' none') ∙ read_back arrays'.text arrays'.scripts in
      let stores = sym (scripts_left_lem arrays none) ∙ same.1 ∙ scripts_left_lem arrays' none' in
      text_is arrays out answer none four ∙ equal.1 (plans, stores) ∙ sym (text_is arrays' out' answer' none' four'),
)
  where
    four : length answer ≡ answer_length
    four = answer_four arrays out answer returned

    four' : length answer' ≡ answer_length
    four' = answer_four arrays' out' answer' returned'

    equal : (rewritten arrays.text arrays.scripts out ≡ rewritten arrays'.text arrays'.scripts out')
        ↔ (((reading_of arrays).plan ≡ (reading_of arrays').plan) × ((reading_of arrays).scripts ≡ (reading_of arrays').scripts))
    equal =
        one_text arrays.text arrays.scripts out arrays'.text arrays'.scripts out'
        (record { read = text_accepted arrays none; wrote = wrote_accepted arrays out answer none four returned })
        (record { read = text_accepted arrays' none'; wrote = wrote_accepted arrays' out' answer' none' four' returned' })
