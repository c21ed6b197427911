-- A list from a text: the plan array that `pirkvezo_read_plan` wrote stands for the plan that was read, which is valid,
-- so that the fresh start is not refused. Assumes nothing.
use Rattle.std.specs.Prelude.{Ok, Err}
use mathlib.Core.Bool.{true, false, false≢true}
use mathlib.Core.Path.{◌≡◌, refl, sym, ap, ◌∙◌}
use borrow.Author.Tests.{eq-eqb}
use lib.ListN.{length}
use Rattle.plan.specs.Validity.{plan_valid}
use Rattle.cache.specs.Lines.{table_length}
use Rattle.ops.specs.Ops.{boxes_length}
use Rattle.reader.specs.Read.{ReadOutcome, read_of}
use Rattle.reader.proofs.Accepted.{accepted_valid}
use Rattle.engine.specs.Checks.{fresh_verdict}
use Rattle.engine.specs.FreshStart.{fresh_from, fresh_start_of}
use Rattle.isolation.specs.Calls.{is_refused}
use Rattle.isolation.proofs.OneRun.Verdicts.{refused_number}
use Rattle.pirkvezo.specs.Answers.{all_fit, answer_of, plan_fits, verdict_number, wrong_length}
use Rattle.pirkvezo.specs.Numbers.{numbers_from, plan_length, plan_numbers, plan_of, state_of}
use Rattle.pirkvezo.specs.Reading.{ReadCall, host_read, read_done, host_read_with}
use Rattle.pirkvezo.specs.Starting.{fresh_done, host_fresh_start}
use Rattle.pirkvezo.proofs.ReadBack.{read_back}
use Rattle.host.specs.Calls.{HostList, IsHostList, IsTextList, ReadArrays, fresh_return, is_refusal, read_return}
use Rattle.host.specs.Statement.{run_of_host}
use Rattle.host.proofs.Calls.{all_fit_lem, fitting}
use Rattle.refusal.specs.Verdict.{Verdict}

pub not_refused : (verdict : Verdict) → is_refused verdict ≡ false → verdict ≡ Ok tt
not_refused (Ok tt) accepted = refl
not_refused (Err refusal) accepted = absurd (false≢true (sym accepted ∙ refused_number refusal))

-- the reading behind a call
abbrev pub reading_of : ReadArrays → ReadOutcome
reading_of arrays = read_of arrays.text arrays.scripts

-- a call that returned 0 read an accepted text, and left what it gives
module _ (arrays : ReadArrays) (none : (read_return arrays).number ≡ 0) where
  read_is : read_return arrays ≡ read_done (reading_of arrays) arrays.answer
  unfolding host_read
  read_is =
      let answer = answer_of wrong_length 0 0 arrays.answer in
      (fitting (λ (call : ReadCall). call.number) (plan_fits arrays.plan arrays.answer)
      (host_read_with (verdict_number wrong_length) arrays.scripts arrays.plan answer)
      (read_done (reading_of arrays) arrays.answer) refl (ap is_refusal none)).1

  pub text_accepted : (reading_of arrays).verdict ≡ Ok tt
  unfolding read_done
  text_accepted =
      not_refused (reading_of arrays).verdict (ap is_refusal (sym (ap (λ (call : ReadCall). call.number) read_is) ∙ none))

  pub plan_left : (read_return arrays).plan ≡ plan_numbers (reading_of arrays).plan
  unfolding read_done
  plan_left = ap (λ (call : ReadCall). call.plan) read_is

  pub scripts_left_lem : (read_return arrays).scripts ≡ (reading_of arrays).scripts
  unfolding read_done
  scripts_left_lem = ap (λ (call : ReadCall). call.scripts) read_is

module _ (arrays : ReadArrays) (list : HostList) (is : IsTextList arrays list) where
  abbrev reading : ReadOutcome
  reading = reading_of arrays

  accepted : reading.verdict ≡ Ok tt
  accepted = text_accepted arrays is.read

  plan_is : list.plan ≡ plan_numbers reading.plan
  plan_is = is.plan_written ∙ plan_left arrays is.read

  scripts_are_lem : list.scripts ≡ reading.scripts
  scripts_are_lem = is.scripts_written ∙ scripts_left_lem arrays is.read

  meant_plan : plan_of list.plan ≡ reading.plan
  meant_plan = ap plan_of plan_is ∙ read_back arrays.text arrays.scripts

  plan_long : length list.plan ≡ plan_length
  unfolding plan_numbers numbers_from
  plan_long = ap length plan_is

  valid : plan_valid (plan_of list.plan) ≡ true
  valid = ap plan_valid meant_plan ∙ accepted_valid arrays.text arrays.scripts accepted

  fresh_accepted : fresh_verdict (plan_of list.plan) list.old_cache list.old_boxes ≡ Ok tt
  unfolding fresh_verdict
  fresh_accepted = rw (eq-eqb _ table_length is.cache_fits, eq-eqb _ boxes_length is.boxes_fit, valid) refl

  fresh_fits : all_fit list.plan list.old_state list.start_answer ≡ true
  fresh_fits = all_fit_lem list.plan list.old_state list.start_answer plan_long is.state_fits is.answer_fits

  started : (fresh_return list).number ≡ 0
  unfolding host_fresh_start fresh_start_of fresh_done
  started =
      rw (fresh_fits, host_fresh_start)
      (ap
      (λ v. verdict_number (fresh_from v (state_of list.old_state) list.old_cache list.old_boxes).verdict)
      fresh_accepted)

  pub text_list : IsHostList list
  text_list = record { started = started; proper = is.proper }

  pub text_run : run_of_host list ≡ record { plan = reading.plan; scripts = reading.scripts; log = list.log }
  text_run = λ i. record { plan = meant_plan i; scripts = scripts_are_lem i; log = list.log }
