-- What each exported call leaves, from what its parts give: the plan that is handed on, the state,
-- the engine's call, what is stored and what is
-- answered. Assumes nothing.
use mathlib.Core.Path.{◌≡◌, refl, ap, ◌∙◌}
use mathlib.Core.Bool.{true, false, and-eq-true_iff}
use mathlib.Core.List.{List}
use Prim.Native.Nat.{ℕ}
use lib.Dec.{eqb}
use lib.ListN.{length}
use borrow.Author.Tests.{eqb-true}
use Rattle.plan.specs.declared.Plan.{Plan}
use Rattle.plan.specs.Validity.{plan_valid}
use Rattle.state.specs.declared.State.{State}
use Rattle.state.specs.World.{World}
use Rattle.machine.specs.View.{world_with}
use Rattle.reader.specs.Read.{ReadOutcome, read_of}
use Rattle.engine.specs.declared.Ending.{Ending}
use Rattle.engine.specs.Answers.{answered}
use Rattle.engine.specs.FreshStart.{FreshOutcome, fresh_start_of}
use Rattle.engine.specs.declared.LentLog.{LentLog}
use Rattle.engine.specs.declared.LentLog.TheVariants.{Part, Whole}
use Rattle.engine.specs.LentLog.{lent_call_of}
use Rattle.engine.specs.Running.{RunOutcome, ending_number, step_call_of}
use Rattle.engine.proofs.Verdicts.{part_called, whole_called}
use Rattle.pirkvezo.specs.LogQuery.{LogAnswer}
use Rattle.pirkvezo.specs.Answers.{all_fit, answer_length, answer_of, plan_fits, verdict_number, wrong_length}
use Rattle.pirkvezo.specs.LogQuery.{log_answer_of, host_log, log_done, host_log_with}
use Rattle.pirkvezo.specs.Numbers.{handed_plan, plan_length, plan_numbers, plan_of, state_length, state_numbers, state_of}
use Rattle.pirkvezo.specs.Reading.{host_read, read_done, host_read_with}
use Rattle.pirkvezo.specs.Running.{RunCall, host_run, host_run_by, host_run_with, host_step, run_done}
use Rattle.pirkvezo.specs.Keeping.{host_run_kept}
use Rattle.pirkvezo.specs.Starting.{fresh_done, host_fresh_with, host_fresh_start}
use Rattle.pirkvezo.proofs.Judged.{fresh_alike, handed, query_alike}
use Rattle.refusal.specs.Verdict.{Verdict}

-- the number that is returned, and the answer that is written
pub record Told (verdict : Verdict) (third fourth : ℕ) (answer : List ℕ) (number : ℕ) (written : List ℕ) : Type 0 where
  pub number_is : number ≡ verdict_number verdict
  pub answer_is : written ≡ answer_of verdict third fourth answer

pub told :
    {verdict : Verdict} {third fourth : ℕ} {answer : List ℕ} {number : ℕ} {written : List ℕ}
    → (number ≡ verdict_number verdict) × (written ≡ answer_of verdict third fourth answer)
    → Told verdict third fourth answer number written
told both = record { number_is = both.0; answer_is = both.1 }

-- ---- the lengths

pub record Lengths (plan state answer : List ℕ) : Type 0 where
  pub plan_is : length plan ≡ plan_length
  pub state_is : length state ≡ state_length
  pub answer_is : length answer ≡ answer_length

pub lengths : (plan state answer : List ℕ) → all_fit plan state answer ≡ true → Lengths plan state answer
lengths plan state answer fit =
    let first = (and-eq-true_iff (eqb (length plan) plan_length) _).0 fit in
    let second = (and-eq-true_iff (eqb (length state) state_length) _).0 first.1 in
    record { plan_is = eqb-true _ _ first.0; state_is = eqb-true _ _ second.0; answer_is = eqb-true _ _ second.1 }

pub read_lengths :
    (plan answer : List ℕ)
    → plan_fits plan answer ≡ true
    → (length plan ≡ plan_length) × (length answer ≡ answer_length)
read_lengths plan answer fit =
    let both = (and-eq-true_iff (eqb (length plan) plan_length) _).0 fit in
    (eqb-true _ _ both.0, eqb-true _ _ both.1)

-- ---- a reading

module _ (text scripts plan answer : List ℕ) (number : ℕ) (written : List ℕ) where
  pub read_unfit :
      plan_fits plan answer ≡ false
      → Told wrong_length 0 0 answer number written
      → host_read_with number scripts plan written ≡ host_read text scripts plan answer
  unfolding host_read
  read_unfit unfit tells = rw (unfit, host_read, tells.number_is, tells.answer_is) refl

  pub read_fit :
      (read : ReadOutcome) (stored : List ℕ)
      → plan_fits plan answer ≡ true
      → read ≡ read_of text scripts
      → stored ≡ plan_numbers read.plan
      → Told read.verdict 0 0 answer number written
      → host_read_with number read.scripts stored written ≡ host_read text scripts plan answer
  unfolding host_read read_done
  read_fit read stored fit did stores tells =
      rw (fit, host_read, tells.number_is, tells.answer_is, stores) (ap (λ (outcome : ReadOutcome). read_done outcome answer) did)

-- ---- a fresh start

module _ (plan state cache boxes answer : List ℕ) (number : ℕ) (written : List ℕ) where
  pub fresh_unfit :
      all_fit plan state answer ≡ false
      → Told wrong_length 0 0 answer number written
      → host_fresh_with number state cache boxes written ≡ host_fresh_start plan state cache boxes answer
  unfolding host_fresh_start
  fresh_unfit unfit tells = rw (unfit, host_fresh_start, tells.number_is, tells.answer_is) refl

  pub fresh_fit :
      (lent : Plan) (before : State) (fresh : FreshOutcome) (stored : List ℕ)
      → all_fit plan state answer ≡ true
      → lent ≡ handed_plan plan
      → before ≡ state_of state
      → fresh ≡ fresh_start_of lent before cache boxes
      → stored ≡ state_numbers fresh.state
      → Told fresh.verdict 0 0 answer number written
      → host_fresh_with number stored fresh.cache fresh.boxes written ≡ host_fresh_start plan state cache boxes answer
  unfolding host_fresh_start fresh_done
  fresh_fit lent before fresh stored fit planned stated did stores tells =
      let done : fresh ≡ fresh_start_of (plan_of plan) (state_of state) cache boxes =
      did
      ∙ ap (λ (p : Plan). fresh_start_of p before cache boxes) planned
      ∙ ap (λ (s : State). fresh_start_of (handed_plan plan) s cache boxes) stated
      ∙ handed (λ p. fresh_start_of p (state_of state) cache boxes) (fresh_alike (state_of state) cache boxes) plan in
      rw (fit, host_fresh_start, tells.number_is, tells.answer_is, stores) (ap (λ (fresh : FreshOutcome). fresh_done fresh answer) done)

-- ---- a run, by what its entry point does

module _ (run : Plan → World → RunOutcome) (plan state cache boxes log answer : List ℕ) (number : ℕ) (written : List ℕ) where
  pub run_unfit :
      all_fit plan state answer ≡ false
      → Told wrong_length 0 0 answer number written
      → host_run_with number state cache boxes log written ≡ host_run_by run plan state cache boxes log answer
  unfolding host_run_by
  run_unfit unfit tells = rw (unfit, host_run_by, tells.number_is, tells.answer_is) refl

  pub run_fit :
      ((world : World) (one other : Plan) → plan_valid one ≡ false → plan_valid other ≡ false → run one world ≡ run other world)
      → (lent : Plan) (before left : State) (verdict : Verdict) (steps ended : ℕ) (ending : Ending) (stored cache' boxes' log' : List ℕ)
      → all_fit plan state answer ≡ true
      → lent ≡ handed_plan plan
      → before ≡ state_of state
      → answered verdict steps ending (world_with left cache' boxes' log') ≡ run lent (world_with before cache boxes log)
      → ended ≡ ending_number ending
      → stored ≡ state_numbers left
      → Told verdict steps ended answer number written
      → host_run_with number stored cache' boxes' log' written ≡ host_run_by run plan state cache boxes log answer
  unfolding host_run_by run_done
  run_fit alike lent before left verdict steps ended ending stored cache' boxes' log' fit planned stated did ends stores tells =
      let done : answered verdict steps ending (world_with left cache' boxes' log')
      ≡ run (plan_of plan) (world_with (state_of state) cache boxes log) =
      did
      ∙ ap (λ (p : Plan). run p (world_with before cache boxes log)) planned
      ∙ ap (λ (s : State). run (handed_plan plan) (world_with s cache boxes log)) stated
      ∙ handed (λ p. run p (world_with (state_of state) cache boxes log)) (alike (world_with (state_of state) cache boxes log)) plan in
      rw (fit, host_run_by, tells.number_is, tells.answer_is, stores, ends) (ap (λ (outcome : RunOutcome). run_done outcome answer) done)

-- what the C functions do is that, with the log that each is lent
module _ (plan scripts state cache boxes log : List ℕ) where
  -- the numbers of a running by the log that it is lent
  abbrev numbers_by : LentLog → ℕ → List ℕ → RunCall
  numbers_by lent limit =
      host_run_by (λ (given : Plan) (world : World). lent_call_of lent given scripts world limit) plan state cache boxes log

  pub run_numbers : (limit : ℕ) (answer : List ℕ)
      → numbers_by Whole limit answer ≡ host_run plan scripts state cache boxes log limit answer
  unfolding host_run
  run_numbers limit answer = λ i.
      host_run_by (λ (given : Plan) (world : World). whole_called given scripts world limit i) plan state cache boxes log answer

  pub step_numbers : (answer : List ℕ) → numbers_by Whole 1 answer ≡ host_step plan scripts state cache boxes log answer
  unfolding host_step step_call_of
  step_numbers answer = λ i.
      host_run_by (λ (given : Plan) (world : World). whole_called given scripts world 1 i) plan state cache boxes log answer

  pub kept_numbers_lem : (domain quota limit : ℕ) (answer : List ℕ)
      → numbers_by (Part domain quota) limit answer ≡ host_run_kept plan scripts state cache boxes log domain quota limit answer
  unfolding host_run_kept
  kept_numbers_lem domain quota limit answer = λ i.
      host_run_by (λ (given : Plan) (world : World). part_called given scripts domain quota world limit i) plan state cache boxes log answer

-- ---- a log query

module _ (plan state log : List ℕ) (domain : ℕ) (answer : List ℕ) (number : ℕ) (written : List ℕ) where
  pub log_unfit :
      all_fit plan state answer ≡ false
      → Told wrong_length 0 0 answer number written
      → host_log_with number written ≡ host_log plan state log domain answer
  unfolding host_log
  log_unfit unfit tells = rw (unfit, host_log, tells.number_is, tells.answer_is) refl

  pub log_fit :
      (lent : Plan) (held : State) (asked : LogAnswer)
      → all_fit plan state answer ≡ true
      → lent ≡ handed_plan plan
      → held ≡ state_of state
      → asked ≡ log_answer_of lent held log domain
      → Told asked.verdict asked.offset asked.length answer number written
      → host_log_with number written ≡ host_log plan state log domain answer
  unfolding host_log log_done
  log_fit lent held asked fit planned stated asks tells =
      let done : asked ≡ log_answer_of (plan_of plan) (state_of state) log domain =
      asks
      ∙ ap (λ (p : Plan). log_answer_of p held log domain) planned
      ∙ ap (λ (s : State). log_answer_of (handed_plan plan) s log domain) stated
      ∙ handed (λ p. log_answer_of p (state_of state) log domain) (query_alike (state_of state) log domain) plan in
      rw (fit, host_log, tells.number_is, tells.answer_is) (ap (λ (answered : LogAnswer). log_done answered answer) done)
