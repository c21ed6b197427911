-- A mask of more than 16 bits makes a plan impossible, and one impossible plan is judged as
-- another: so the plan that is handed on is judged as
-- the lent numbers are. Assumes nothing.
use Rattle.std.specs.Prelude.{Err}
use mathlib.Core.Path.{◌≡◌, refl, sym, ◌∙◌}
use mathlib.Core.Bool.{Bool, true, false, cond, false≢true, ◌&&◌}
use mathlib.Core.List.{List}
use Prim.Native.Nat.{ℕ}
use lib.Dec.{eqb}
use lib.ListN.{length}
use borrow.Author.Tests.{le-leb}
use Rattle.plan.specs.declared.Plan.{Plan}
use Rattle.plan.specs.Validity.{counts_valid, plan_valid}
use Rattle.plan.proofs.Masks.{mask_most}
use Rattle.plan.proofs.Sums.{below_all}
use Rattle.script.specs.Limits.{scripts_length}
use Rattle.state.specs.declared.State.{State}
use Rattle.state.specs.World.{World}
use Rattle.plan.specs.Zeros.{no_plan}
use Rattle.machine.specs.Steps.{RunEffect, run_keeping}
use Rattle.refusal.specs.declared.Refusal.TheVariants.{ImpossiblePlan, WrongLength}
use Rattle.refusal.specs.Checks.{unless}
use Rattle.engine.specs.FreshStart.{fresh_start_of}
use Rattle.engine.specs.Checks.{fresh_verdict, lent_verdict, tables_fit}
use Rattle.engine.specs.declared.LentLog.{LentLog}
use Rattle.engine.specs.LentLog.{keep_of, lent_call_of, lent_log_verdict, log_fits, quota_of}
use Rattle.engine.specs.Running.{outcome_from}
use Rattle.engine.proofs.Verdicts.{log_impossible}
use Rattle.plan.specs.Limits.{most_domains}
use Rattle.pirkvezo.specs.LogQuery.{log_answer_of}
use Rattle.pirkvezo.specs.Numbers.{handed_plan, masks_fit, masks_offset, plan_of}
use Rattle.pirkvezo.proofs.LogQueries.{query_refused}
use Rattle.pirkvezo.proofs.Runs.{run_at}

-- ---- masks that do not fit

-- a possible plan's masks fit
fit_of_valid : (numbers : List ℕ) → plan_valid (plan_of numbers) ≡ true → masks_fit numbers ≡ true
unfolding masks_fit plan_of
fit_of_valid numbers possible =
    below_all _ most_domains λ domain below. le-leb _ _
    (rw (run_at numbers masks_offset most_domains domain below) at (mask_most (plan_of numbers) domain possible below))

unfit_impossible : (numbers : List ℕ) → masks_fit numbers ≡ false → plan_valid (plan_of numbers) ≡ false
unfit_impossible numbers unfit = go (plan_valid (plan_of numbers)) refl
  where
    go : (b : Bool) → plan_valid (plan_of numbers) ≡ b → plan_valid (plan_of numbers) ≡ false
    go true e = absurd (false≢true (sym unfit ∙ fit_of_valid numbers e))
    go false e = e

-- the plan of all zeros is impossible
pub no_plan_impossible : plan_valid no_plan ≡ false
unfolding plan_valid counts_valid no_plan
no_plan_impossible = refl

-- what depends on an impossible plan only through its being impossible is the same of the plan that is handed on
pub handed {ℓ} :
    {A : Type ℓ} (call : Plan → A)
    → ((one other : Plan) → plan_valid one ≡ false → plan_valid other ≡ false → call one ≡ call other)
    → (numbers : List ℕ)
    → call (handed_plan numbers) ≡ call (plan_of numbers)
unfolding handed_plan
handed call alike numbers = go (masks_fit numbers) refl
  where
    go :
        (b : Bool)
        → masks_fit numbers ≡ b
        → call (cond (masks_fit numbers) (plan_of numbers) no_plan) ≡ call (plan_of numbers)
    go true e = rw e refl
    go false e = rw e (alike no_plan (plan_of numbers) no_plan_impossible (unfit_impossible numbers e))

-- ---- the calls

pub fresh_alike :
    (state : State) (cache boxes : List ℕ) (one other : Plan)
    → plan_valid one ≡ false
    → plan_valid other ≡ false
    → fresh_start_of one state cache boxes ≡ fresh_start_of other state cache boxes
unfolding fresh_start_of fresh_verdict
fresh_alike state cache boxes one other impossible impossible' = rw (impossible, impossible') refl

pub lent_alike :
    (lent : LentLog) (scripts : List ℕ) (world : World) (limit : ℕ) (one other : Plan)
    → plan_valid one ≡ false
    → plan_valid other ≡ false
    → lent_call_of lent one scripts world limit ≡ lent_call_of lent other scripts world limit
unfolding lent_call_of lent_log_verdict lent_verdict
lent_alike lent scripts world limit one other impossible impossible' =
    rw (impossible, impossible', lent_call_of, lent_log_verdict, lent_verdict)
    (go (log_fits lent (length world.log)) (eqb (length scripts) scripts_length && tables_fit world.cache world.boxes))
  where
    done : Plan → RunEffect
    done plan = run_keeping (keep_of lent) plan scripts (quota_of lent plan (length world.log)) limit world

    go : (long fit : Bool)
        → outcome_from (unless long WrongLength (unless fit WrongLength (Err ImpossiblePlan))) one (done one) world
        ≡ outcome_from (unless long WrongLength (unless fit WrongLength (Err ImpossiblePlan))) other (done other) world
    go false fit = refl
    go true false = refl
    go true true = refl

pub query_alike :
    (state : State) (log : List ℕ) (domain : ℕ) (one other : Plan)
    → plan_valid one ≡ false
    → plan_valid other ≡ false
    → log_answer_of one state log domain ≡ log_answer_of other state log domain
query_alike state log domain one other impossible impossible' =
    sym (query_refused one state log domain _ (log_impossible one state log domain impossible))
    ∙ query_refused other state log domain _ (log_impossible other state log domain impossible')
