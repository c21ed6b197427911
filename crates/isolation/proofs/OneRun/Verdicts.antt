-- When the entry points refuse, and what a run that is not refused leaves. Assumes nothing.
use Rattle.std.specs.Prelude.{Ok, Err}
use Prim.Native.Nat.{ℕ, ◌<◌}
use mathlib.Core.Bool.{Bool, true, false, false≢true, not}
use mathlib.Core.List.{List}
use mathlib.Core.Path.{◌≡◌, refl, sym, ap, ◌∙◌}
use native.Mathlib.Omega.{arith}
use lib.ListN.{length}
use borrow.Author.Tests.{le-ltb, ne_eqb}
use Rattle.plan.specs.declared.Plan.{Plan}
use Rattle.plan.specs.Validity.{plan_valid}
use Rattle.script.specs.Limits.{scripts_length}
use Rattle.records.specs.Records.{part_records}
use Rattle.state.specs.declared.State.{State}
use Rattle.state.specs.StateValidity.{state_valid}
use Rattle.state.specs.World.{World}
use Rattle.machine.specs.Steps.{RunEffect, steps}
use Rattle.refusal.specs.declared.Refusal.{Refusal}
use Rattle.refusal.specs.declared.Refusal.TheVariants.{ImpossiblePlan, WrongDomain, WrongLength}
use Rattle.engine.specs.LogQuery.{log_status_of}
use Rattle.engine.specs.Checks.{fresh_verdict, lent_verdict, log_verdict, run_verdict, tables_fit}
use Rattle.refusal.specs.Checks.{unless}
use Rattle.refusal.proofs.Numbers.{number_not_zero}
use Rattle.machine.specs.Fresh.{fresh_world}
use Rattle.engine.specs.FreshStart.{FreshOutcome, fresh_from, fresh_start_of}
use Rattle.engine.specs.Running.{outcome_from, ran_from, run_call_of, run_from}
use Rattle.isolation.specs.Calls.{is_refused}
use Rattle.refusal.specs.Verdict.{Verdict}

-- every refusal has a number that is not 0
pub refused_number : (refusal : Refusal) → is_refused (Err refusal) ≡ true
refused_number refusal = ap not (number_not_zero refusal)

-- ---- a run

-- whatever it would do, by its verdict
module _ (plan : Plan) (ran : RunEffect) (world : World) where
  pub outcome_refused : (verdict : Verdict) → is_refused (outcome_from verdict plan ran world).verdict ≡ true
      → (outcome_from verdict plan ran world).world ≡ world
  unfolding ran_from
  outcome_refused (Ok tt) refused = absurd (false≢true refused)
  outcome_refused (Err refusal) refused = refl

  pub outcome_accepted : (verdict : Verdict) → is_refused (outcome_from verdict plan ran world).verdict ≡ false → verdict ≡ Ok tt
  unfolding ran_from
  outcome_accepted (Ok tt) accepted = refl
  outcome_accepted (Err refusal) accepted = absurd (false≢true (sym accepted ∙ refused_number refusal))

module _ (plan : Plan) (scripts : List ℕ) (world : World) (limit : ℕ) where
  -- a refused run leaves what it was handed
  pub run_refused : is_refused (run_call_of plan scripts world limit).verdict ≡ true
      → (run_call_of plan scripts world limit).world ≡ world
  unfolding run_call_of
  run_refused refused = outcome_refused plan _ world (run_verdict plan scripts world) refused

  -- any other leaves as many steps as its limit
  pub run_accepted : is_refused (run_call_of plan scripts world limit).verdict ≡ false
      → (run_call_of plan scripts world limit).world ≡ steps plan scripts (part_records plan (length world.log)) limit world
  unfolding run_call_of ran_from
  run_accepted accepted = go (run_verdict plan scripts world) accepted
    where
      go : (verdict : Verdict) → is_refused (run_from verdict plan scripts world limit).verdict ≡ false
          → (run_from verdict plan scripts world limit).world ≡ steps plan scripts (part_records plan (length world.log)) limit world
      go (Ok tt) accepted' = refl
      go (Err refusal) accepted' = absurd (false≢true (sym accepted' ∙ refused_number refusal))

  -- its verdict is that of the checks
  pub run_verdict_lem : (run_call_of plan scripts world limit).verdict ≡ run_verdict plan scripts world
  unfolding run_call_of ran_from
  run_verdict_lem = go (run_verdict plan scripts world)
    where
      go : (verdict : Verdict) → (run_from verdict plan scripts world limit).verdict ≡ verdict
      go (Ok tt) = refl
      go (Err refusal) = refl

-- ---- the checks

-- a script store of another length is refused, whatever else is handed
pub wrong_store : (plan : Plan) (scripts : List ℕ) (world : World) → (length scripts ≡ scripts_length → ⊥)
    → run_verdict plan scripts world ≡ Err WrongLength
unfolding run_verdict lent_verdict
wrong_store plan scripts world differs = rw (ne_eqb (length scripts) scripts_length differs, lent_verdict)

-- but an undeclared one's is not
pub wrong_domain : (plan : Plan) (state : State) (log : List ℕ) (domain : ℕ)
    → plan_valid plan ≡ true
    → state_valid plan (part_records plan (length log)) state ≡ true
    → (domain < plan.domains → ⊥)
    → log_status_of plan state log domain ≡ Err (WrongDomain 0)
unfolding log_status_of log_verdict
wrong_domain plan state log domain possible passes undeclared =
    rw (possible, passes, le-ltb domain plan.domains (omega arith), log_verdict)

-- what a fresh start leaves, and a log, as a world
abbrev beside : FreshOutcome → List ℕ → World
beside fresh log = record { state = fresh.state; cache = fresh.cache; boxes = fresh.boxes; log = log }

-- a fresh start that is not refused was handed a possible plan
pub fresh_valid : (plan : Plan) (state : State) (cache boxes : List ℕ)
    → is_refused (fresh_start_of plan state cache boxes).verdict ≡ false → plan_valid plan ≡ true
unfolding fresh_start_of fresh_verdict
fresh_valid plan state cache boxes started = go (tables_fit cache boxes) (plan_valid plan) started
  where
    go : (fit possible : Bool)
        → is_refused (fresh_from (unless fit WrongLength (unless possible ImpossiblePlan (Ok tt))) state cache boxes).verdict ≡ false → possible ≡ true
    go true true accepted = refl
    go true false accepted = sym accepted
    go false possible accepted = absurd (false≢true (sym accepted))

-- and it left the machine's fresh world, beside any log
pub fresh_started : (plan : Plan) (state : State) (cache boxes log : List ℕ)
    → is_refused (fresh_start_of plan state cache boxes).verdict ≡ false
    → beside (fresh_start_of plan state cache boxes) log ≡ fresh_world log
unfolding fresh_start_of fresh_world
fresh_started plan state cache boxes log started = go (fresh_verdict plan cache boxes) started
  where
    go : (verdict : Verdict) → is_refused (fresh_from verdict state cache boxes).verdict ≡ false
        → beside (fresh_from verdict state cache boxes) log ≡ fresh_world log
    go (Ok tt) started' = refl
    go (Err refusal) started' = absurd (false≢true (sym started' ∙ refused_number refusal))
