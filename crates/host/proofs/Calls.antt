-- One call of a host: a refused call leaves the list's own arrays, and a call on these does what the engine's call
-- does on the world that they stand for. Assumes nothing.
use Prim.Native.Nat.{ℕ}
use mathlib.Core.Bool.{Bool, true, false, false≢true, ◌&&◌}
use mathlib.Core.List.{List}
use mathlib.Core.Path.{◌≡◌, refl, sym, ap, subst, ◌∙◌}
use lib.Dec.{eqb}
use lib.ListN.{length}
use borrow.Author.Tests.{eq-eqb, ne_eqb}
use Rattle.state.specs.World.{World}
use Rattle.machine.specs.View.{world_with}
use Rattle.engine.specs.Running.{RunOutcome, run_call_of, step_call_of}
use Rattle.isolation.specs.Calls.{AllOwn, Call, Handed, after_call, handed, left_in, log_answer, log_status, own}
use Rattle.isolation.specs.Calls.{run_answer, run_call, verdict_of}
use Rattle.isolation.proofs.OneRun.Calls.{is_own, left_same, own_log_things, own_things}
use Rattle.pirkvezo.specs.Answers.{all_fit, answer_length, verdict_number, wrong_length}
use Rattle.pirkvezo.specs.LogQuery.{LogCall, host_log, log_answer_of, log_done}
use Rattle.pirkvezo.specs.Numbers.{numbers_from, plan_length, plan_of, state_length, state_numbers, state_of}
use Rattle.pirkvezo.specs.Running.{RunCall, host_run, host_run_by, host_step, run_done}
use Rattle.pirkvezo.specs.Theorems.{RunKept}
use Rattle.pirkvezo.proofs.Calls.{lengths}
use Rattle.pirkvezo.proofs.Kept.{run_kept}
use Rattle.pirkvezo.proofs.StateBack.{run_back}
use Rattle.host.specs.Calls.{AllOwnArrays, Arrays, HostCall, LogArrays, OwnLogArrays, OwnRunArrays, RunArrays}
use Rattle.host.specs.Calls.{after_host_call, answer_handed, host_log_call, host_run_call, host_step_call, is_refusal}
use Rattle.host.specs.Calls.{left_arrays, log_return, number_returned, run_return, step_return}

-- ---- lengths come first

-- what a call does that looks at the lengths first
abbrev by_lengths : {A : Type 0} → Bool → A → A → A
by_lengths fit unfit done = elim fit [ false ↦ unfit | true ↦ done ]

-- where it is not refused, the lengths are right
pub fitting :
    {A : Type 0} (number : A → ℕ) (fit : Bool) (unfit done : A)
    → is_refusal (number unfit) ≡ true
    → is_refusal (number (by_lengths fit unfit done)) ≡ false
    → (fit ≡ true) × (by_lengths fit unfit done ≡ done)
fitting number true unfit done refused accepted = (refl, refl)
fitting number false unfit done refused accepted = absurd (false≢true (sym accepted ∙ refused))

pub all_fit_lem :
    (plan state answer : List ℕ)
    → length plan ≡ plan_length
    → length state ≡ state_length
    → length answer ≡ answer_length
    → all_fit plan state answer ≡ true
all_fit_lem plan state answer plan_is state_is answer_is =
    rw (eq-eqb _ plan_length plan_is, eq-eqb _ state_length state_is, eq-eqb _ answer_length answer_is) refl

-- an answer of another length does not fit
not_both : (one two three : Bool) → three ≡ false → (one && (two && three)) ≡ false
not_both true true three no-fit = no-fit
not_both true false three no-fit = refl
not_both false two three no-fit = refl

pub unfit_answer :
    (plan state answer : List ℕ) → (length answer ≡ answer_length → ⊥) → all_fit plan state answer ≡ false
unfit_answer plan state answer differs =
    not_both (eqb (length plan) plan_length) (eqb (length state) state_length) _
    (ne_eqb (length answer) answer_length differs)

-- ---- a refused call

pub not_zero : (number : ℕ) → is_refusal number ≡ true → number ≡ 0 → ⊥
not_zero number refused zero = false≢true (sym (ap is_refusal zero) ∙ refused)

-- an array that a call left as it was handed leaves the list's own as it was
array_kept :
    (thing : Handed (List ℕ)) (held left : List ℕ) → left ≡ handed thing held → left_in thing held left ≡ held
array_kept thing held left kept = ap (left_in thing held) kept ∙ left_same thing held

pub arrays_kept :
    (arrays : RunArrays) (held : Arrays) (left : RunCall)
    → RunKept (handed arrays.state held.state) (handed arrays.cache held.cache)
    (handed arrays.boxes held.boxes) (handed arrays.log held.log) left
    → left_arrays arrays held left ≡ held
arrays_kept arrays held left kept =
    let state = array_kept arrays.state held.state left.state kept.state_is in
    let cache = array_kept arrays.cache held.cache left.cache kept.cache_is in
    let boxes = array_kept arrays.boxes held.boxes left.boxes kept.boxes_are in
    let log = array_kept arrays.log held.log left.log kept.log_is in
    λ i. record { state = state i; cache = cache i; boxes = boxes i; log = log i }

module _ (plan scripts : List ℕ) where
  run_keeps :
      (arrays : RunArrays) (limit : ℕ) (held : Arrays)
      → is_refusal (run_return plan scripts arrays limit held).number ≡ true
      → left_arrays arrays held (run_return plan scripts arrays limit held) ≡ held
  unfolding run_return
  run_keeps arrays limit held refused =
      arrays_kept arrays held _
      (run_kept (handed arrays.plan plan) (handed arrays.scripts scripts) _ _ _ _ limit arrays.answer
      (not_zero _ refused))

  -- a step is a run whose limit is one step
  pub refused_keeps :
      (call : HostCall) (held : Arrays)
      → is_refusal (number_returned plan scripts call held) ≡ true
      → after_host_call plan scripts call held ≡ held
  unfolding after_host_call number_returned run_return step_return host_run host_step step_call_of
  refused_keeps (host_step_call arrays) held refused = run_keeps arrays 1 held refused
  refused_keeps (host_run_call arrays limit) held refused = run_keeps arrays limit held refused
  refused_keeps (host_log_call arrays domain) held refused = refl

-- ---- a call on the list's own arrays

-- every array but the answer is the list's own
abbrev pub own_run_arrays : List ℕ → RunArrays
own_run_arrays answer =
    record { plan = own; scripts = own; state = own; cache = own; boxes = own; log = own; answer = answer }

abbrev own_log_arrays : List ℕ → LogArrays
own_log_arrays answer = record { plan = own; state = own; log = own; answer = answer }

pub all_own_arrays : (arrays : RunArrays) → OwnRunArrays arrays → arrays ≡ own_run_arrays arrays.answer
all_own_arrays arrays owned =
    let plan = is_own arrays.plan owned.0 in
    let scripts = is_own arrays.scripts owned.1 in
    let state = is_own arrays.state owned.2 in
    let cache = is_own arrays.cache owned.3 in
    let boxes = is_own arrays.boxes owned.4 in
    let log = is_own arrays.log owned.5 in
    λ i.
    record {
      plan = plan i;
      scripts = scripts i;
      state = state i;
      cache = cache i;
      boxes = boxes i;
      log = log i;
      answer = arrays.answer;
    }

all_own_log_arrays : (arrays : LogArrays) → OwnLogArrays arrays → arrays ≡ own_log_arrays arrays.answer
all_own_log_arrays arrays owned =
    let plan = is_own arrays.plan owned.0 in
    let state = is_own arrays.state owned.1 in
    let log = is_own arrays.log owned.2 in
    λ i. record { plan = plan i; state = state i; log = log i; answer = arrays.answer }

-- the engine's call for a host's, on the list's own things
abbrev pub as_call : HostCall → Call
as_call (host_step_call arrays) = run_call own_things 1
as_call (host_run_call arrays limit) = run_call own_things limit
as_call (host_log_call arrays domain) = log_status own_log_things domain

pub as_own : (call : HostCall) → AllOwn (as_call call)
as_own (host_step_call arrays) = (tt, tt, tt, tt, tt, tt)
as_own (host_run_call arrays limit) = (tt, tt, tt, tt, tt, tt)
as_own (host_log_call arrays domain) = (tt, tt, tt)

-- the world that arrays stand for
abbrev pub meant : Arrays → World
meant held = world_with (state_of held.state) held.cache held.boxes held.log

-- a log query on arrays of the right lengths is the engine's
pub query_is :
    (plan : List ℕ) (held : Arrays) (domain : ℕ) (answer : List ℕ)
    → all_fit plan held.state answer ≡ true
    → host_log plan held.state held.log domain answer
    ≡ log_done (log_answer_of (plan_of plan) (state_of held.state) held.log domain) answer
unfolding host_log
query_is plan held domain answer fit = rw (fit, host_log) refl

-- what a call with an answer array returns and leaves: it is refused with 11, or does what the engine's call does
pub record Mirrors
    (plan scripts : List ℕ) (held : Arrays) (call : Call) (answer : List ℕ) (number : ℕ) (after : Arrays) : Type 0 where
  pub unfit : all_fit plan held.state answer ≡ false → number ≡ verdict_number wrong_length
  pub returns :
      all_fit plan held.state answer ≡ true
      → number ≡ verdict_number (verdict_of (plan_of plan) scripts call (meant held))
  pub world :
      all_fit plan held.state answer ≡ true
      → meant after ≡ after_call (plan_of plan) scripts call (meant held)
  pub long : all_fit plan held.state answer ≡ true → length after.state ≡ state_length

module _ (plan scripts : List ℕ) (held : Arrays) where
  abbrev OwnMirrors : HostCall → Type 0
  OwnMirrors call =
      Mirrors plan scripts held (as_call call) (answer_handed call) (number_returned plan scripts call held)
      (after_host_call plan scripts call held)

  module _ (limit : ℕ) (answer : List ℕ) where
    abbrev did : RunCall
    did = host_run plan scripts held.state held.cache held.boxes held.log limit answer

    abbrev ran : RunOutcome
    ran = run_call_of (plan_of plan) scripts (meant held) limit

    pub did_is : all_fit plan held.state answer ≡ true → did ≡ run_done ran answer
    unfolding host_run host_run_by
    did_is fit = rw (fit, host_run_by) refl

    did_unfit : all_fit plan held.state answer ≡ false → did.number ≡ verdict_number wrong_length
    unfolding host_run host_run_by
    did_unfit unfit = rw (unfit, host_run_by) refl

    own_run : OwnMirrors (host_run_call (own_run_arrays answer) limit)
    unfolding number_returned after_host_call run_return verdict_of after_call run_answer run_done state_numbers numbers_from
    own_run =
        let again = run_back plan scripts held.state held.cache held.boxes held.log limit in
        record {
          unfit = did_unfit;
          returns = λ fit. ap (λ (run : RunCall). run.number) (did_is fit);
          world =
              λ fit.
              ap (λ (run : RunCall). world_with (state_of run.state) run.cache run.boxes run.log) (did_is fit)
              ∙ (λ i. world_with (again i) ran.world.cache ran.world.boxes ran.world.log);
          long = λ fit. ap (λ (run : RunCall). length run.state) (did_is fit);
        }

  own_step : (answer : List ℕ) → OwnMirrors (host_step_call (own_run_arrays answer))
  unfolding number_returned after_host_call step_return run_return host_step host_run step_call_of
  own_step answer = own_run 1 answer

  module _ (domain : ℕ) (answer : List ℕ) where
    query_unfit :
        all_fit plan held.state answer ≡ false
        → (host_log plan held.state held.log domain answer).number ≡ verdict_number wrong_length
    unfolding host_log
    query_unfit unfit = rw (unfit, host_log) refl

    own_log_lem : OwnMirrors (host_log_call (own_log_arrays answer) domain)
    unfolding number_returned after_host_call log_return verdict_of after_call log_answer log_done log_answer_of
    own_log_lem =
        record {
          unfit = query_unfit;
          returns = λ fit. ap (λ (query : LogCall). query.number) (query_is plan held domain answer fit);
          world = λ fit. refl;
          long = λ fit. (lengths plan held.state answer fit).state_is;
        }

  pub mirrors : (call : HostCall) → AllOwnArrays call → OwnMirrors call
  mirrors (host_step_call arrays) owned =
      subst (λ (a : RunArrays). OwnMirrors (host_step_call a)) (sym (all_own_arrays arrays owned))
      (own_step arrays.answer)
  mirrors (host_run_call arrays limit) owned =
      subst (λ (a : RunArrays). OwnMirrors (host_run_call a limit)) (sym (all_own_arrays arrays owned))
      (own_run limit arrays.answer)
  mirrors (host_log_call arrays domain) owned =
      subst (λ (a : LogArrays). OwnMirrors (host_log_call a domain)) (sym (all_own_log_arrays arrays owned))
      (own_log_lem domain arrays.answer)

  -- a call on the list's own arrays that is not refused was handed an answer of its length
  pub accepted_fits :
      (call : HostCall)
      → AllOwnArrays call
      → is_refusal (number_returned plan scripts call held) ≡ false
      → all_fit plan held.state (answer_handed call) ≡ true
  accepted_fits call owned accepted = go (all_fit plan held.state (answer_handed call)) refl
    where
      go :
          (fit : Bool)
          → all_fit plan held.state (answer_handed call) ≡ fit
          → all_fit plan held.state (answer_handed call) ≡ true
      go true is = is
      go false is = absurd (false≢true (sym accepted ∙ ap is_refusal ((mirrors call owned).unfit is)))
