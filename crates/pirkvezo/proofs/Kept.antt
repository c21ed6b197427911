-- A refused call leaves state, cache table, boxes and log as they were lent. Assumes nothing.
use Rattle.std.specs.Prelude.{Ok, Err}
use mathlib.Core.Path.{◌≡◌, refl, ap, ◌∙◌}
use mathlib.Core.Bool.{Bool, true, false}
use mathlib.Core.List.{List}
use Prim.Native.Nat.{ℕ}
use lib.ListN.{length}
use Rattle.plan.specs.declared.Plan.{Plan}
use Rattle.state.specs.World.{World}
use Rattle.machine.specs.Steps.{RunEffect}
use Rattle.machine.specs.View.{world_with}
use Rattle.engine.specs.Checks.{fresh_verdict, kept_verdict, run_verdict}
use Rattle.engine.specs.FreshStart.{fresh_from, fresh_start_of}
use Rattle.engine.specs.Keeping.{kept_call_of}
use Rattle.engine.specs.Running.{RunOutcome, outcome_from, ran_from, run_call_of}
use Rattle.pirkvezo.specs.Answers.{all_fit, answer_of, verdict_number, wrong_length}
use Rattle.pirkvezo.specs.Numbers.{plan_of, state_length, state_numbers, state_of}
use Rattle.pirkvezo.specs.Running.{RunCall, host_run, host_run_by, host_run_with, run_done}
use Rattle.pirkvezo.specs.Keeping.{host_run_kept}
use Rattle.pirkvezo.specs.Starting.{FreshCall, fresh_done, host_fresh_with, host_fresh_start}
use Rattle.pirkvezo.specs.Theorems.{FreshKept, RefusedFreshKeeps, RefusedKeptRunKeeps, RefusedRunKeeps, RunKept}
use Rattle.pirkvezo.proofs.Calls.{lengths}
use Rattle.pirkvezo.proofs.Whole.{state_kept}
use Rattle.refusal.specs.Verdict.{Verdict}

-- ---- a fresh start

fresh_judged :
    (state cache boxes answer : List ℕ) (verdict : Verdict)
    → length state ≡ state_length
    → ((fresh_done (fresh_from verdict (state_of state) cache boxes) answer).number ≡ 0 → ⊥)
    → FreshKept state cache boxes (fresh_done (fresh_from verdict (state_of state) cache boxes) answer)
unfolding fresh_done
fresh_judged state cache boxes answer (Ok tt) long refused = absurd (refused refl)
fresh_judged state cache boxes answer (Err refusal) long refused = record { state_is = state_kept state long; cache_is = refl; boxes_are = refl }

pub fresh_kept : RefusedFreshKeeps
unfolding host_fresh_start fresh_start_of
fresh_kept plan state cache boxes answer refused = go (all_fit plan state answer) refl
  where
    go :
        (b : Bool)
        → all_fit plan state answer ≡ b
        → FreshKept state cache boxes (host_fresh_start plan state cache boxes answer)
    go false e =
        let unfit : host_fresh_start plan state cache boxes answer ≡ host_fresh_with (verdict_number wrong_length) state cache boxes (answer_of wrong_length 0 0 answer) =
        rw (e, host_fresh_start) refl in
        rw unfit (record { state_is = refl; cache_is = refl; boxes_are = refl })
    go true e =
        let fits : host_fresh_start plan state cache boxes answer
        ≡ fresh_done (fresh_from (fresh_verdict (plan_of plan) cache boxes) (state_of state) cache boxes) answer =
        rw (e, host_fresh_start) refl in
        rw fits
        (fresh_judged state cache boxes answer (fresh_verdict (plan_of plan) cache boxes) (lengths plan state answer e).state_is
        (λ none. refused (ap (λ (call : FreshCall). call.number) fits ∙ none)))

-- ---- a run, by what its entry point does

-- where it refuses, it leaves the world that it was handed
abbrev Keeps : (Plan → World → RunOutcome) → Type 0
Keeps run =
    (plan : Plan) (world : World) → (verdict_number (run plan world).verdict ≡ 0 → ⊥) → (run plan world).world ≡ world

outcome_keeps : (verdict : Verdict) (plan : Plan) (ran : RunEffect) (world : World)
    → (verdict_number (outcome_from verdict plan ran world).verdict ≡ 0 → ⊥)
    → (outcome_from verdict plan ran world).world ≡ world
unfolding ran_from
outcome_keeps (Ok tt) plan ran world refused = absurd (refused refl)
outcome_keeps (Err refusal) plan ran world refused = refl

module _ (run : Plan → World → RunOutcome) (keeps : Keeps run) (plan state cache boxes log answer : List ℕ) where
  run_keeps :
      ((host_run_by run plan state cache boxes log answer).number ≡ 0 → ⊥)
      → RunKept state cache boxes log (host_run_by run plan state cache boxes log answer)
  unfolding host_run_by run_done
  run_keeps refused = go (all_fit plan state answer) refl
    where
      go :
          (b : Bool)
          → all_fit plan state answer ≡ b
          → RunKept state cache boxes log (host_run_by run plan state cache boxes log answer)
      go false e =
          let unfit : host_run_by run plan state cache boxes log answer
          ≡ host_run_with (verdict_number wrong_length) state cache boxes log (answer_of wrong_length 0 0 answer) =
          rw (e, host_run_by) refl in
          rw unfit (record { state_is = refl; cache_is = refl; boxes_are = refl; log_is = refl })
      go true e =
          let world = world_with (state_of state) cache boxes log in
          let fits : host_run_by run plan state cache boxes log answer ≡ run_done (run (plan_of plan) world) answer = rw (e, host_run_by) refl in
          let kept : (run (plan_of plan) world).world ≡ world =
          keeps (plan_of plan) world (λ none. refused (ap (λ (call : RunCall). call.number) fits ∙ none)) in
          rw fits
          (record {
            state_is = ap (λ (w : World). state_numbers w.state) kept ∙ state_kept state (lengths plan state answer e).state_is;
            cache_is = ap (λ (w : World). w.cache) kept;
            boxes_are = ap (λ (w : World). w.boxes) kept;
            log_is = ap (λ (w : World). w.log) kept;
          })

-- running with a limit; a step is a run with limit 1
pub run_kept : RefusedRunKeeps
unfolding host_run run_call_of
run_kept plan scripts state cache boxes log limit answer =
    run_keeps (λ lent world. run_call_of lent scripts world limit)
    (λ lent world. outcome_keeps (run_verdict lent scripts world) lent _ world) plan state cache boxes log answer

-- and with only one domain's log
pub kept_run_kept : RefusedKeptRunKeeps
unfolding host_run_kept kept_call_of
kept_run_kept plan scripts state cache boxes kept domain quota limit answer =
    run_keeps (λ lent world. kept_call_of lent scripts domain quota world limit)
    (λ lent world. outcome_keeps (kept_verdict lent scripts domain quota world) lent _ world) plan state cache boxes kept answer
