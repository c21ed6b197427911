-- What a call for a latest finish leaves, from what its parts give. Assumes nothing.
use Rattle.std.specs.Prelude.{Ok, Err}
use mathlib.Core.Path.{◌≡◌, refl, ap, ◌∙◌}
use mathlib.Core.Bool.{Bool, true, false}
use mathlib.Core.List.{List}
use Prim.Native.Nat.{ℕ}
use Rattle.plan.specs.declared.Plan.{Plan}
use Rattle.latest.specs.Answer.{LatestOutcome, latest_from, latest_of, latest_verdict}
use Rattle.latest.proofs.Answers.{impossible_alike}
use Rattle.pirkvezo.specs.Answers.{answer_of, plan_fits, wrong_length}
use Rattle.pirkvezo.specs.Finishing.{LatestCall, host_latest, host_latest_with, latest_done}
use Rattle.pirkvezo.specs.Numbers.{handed_plan, plan_of}
use Rattle.pirkvezo.specs.Theorems.{RefusedLatestKeeps}
use Rattle.pirkvezo.proofs.Calls.{Told}
use Rattle.pirkvezo.proofs.Judged.{handed}
use Rattle.refusal.specs.Verdict.{Verdict}

module _ (plan : List ℕ) (domain : ℕ) (script answer : List ℕ) (number : ℕ) (told : List ℕ) where
  pub latest_unfit :
      plan_fits plan answer ≡ false
      → Told wrong_length 0 0 answer number told
      → host_latest_with number script told ≡ host_latest plan domain script answer
  unfolding host_latest
  latest_unfit unfit tells = rw (unfit, host_latest, tells.number_is, tells.answer_is) refl

  pub latest_fit :
      (lent : Plan) (found : LatestOutcome)
      → plan_fits plan answer ≡ true
      → lent ≡ handed_plan plan
      → found ≡ latest_of lent domain script
      → Told found.verdict found.ticks 0 answer number told
      → host_latest_with number found.script told ≡ host_latest plan domain script answer
  unfolding host_latest latest_done
  latest_fit lent found fit planned did tells =
      let done : found ≡ latest_of (plan_of plan) domain script =
      did
      ∙ ap (λ (p : Plan). latest_of p domain script) planned
      ∙ handed (λ p. latest_of p domain script) (impossible_alike domain script) plan in
      rw (fit, host_latest, tells.number_is, tells.answer_is) (ap (λ (found : LatestOutcome). latest_done found answer) done)

-- ---- a refused asking

latest_judged :
    (plan : Plan) (domain : ℕ) (script answer : List ℕ) (verdict : Verdict)
    → ((latest_done (latest_from verdict plan domain script) answer).number ≡ 0 → ⊥)
    → (latest_done (latest_from verdict plan domain script) answer).script ≡ script
unfolding latest_done
latest_judged plan domain script answer (Ok tt) refused = absurd (refused refl)
latest_judged plan domain script answer (Err refusal) refused = refl

pub latest_kept : RefusedLatestKeeps
unfolding host_latest latest_of
latest_kept plan domain script answer refused = go (plan_fits plan answer) refl
  where
    go : (fit : Bool) → plan_fits plan answer ≡ fit → (host_latest plan domain script answer).script ≡ script
    go false e =
        let unfit : host_latest plan domain script answer ≡ host_latest_with 11 script (answer_of wrong_length 0 0 answer) = rw (e, host_latest) refl in
        ap (λ (call : LatestCall). call.script) unfit
    go true e =
        let verdict = latest_verdict (plan_of plan) domain script in
        let fits : host_latest plan domain script answer ≡ latest_done (latest_from verdict (plan_of plan) domain script) answer = rw (e, host_latest) refl in
        ap (λ (call : LatestCall). call.script) fits
        ∙ latest_judged (plan_of plan) domain script answer verdict
        (λ none. refused (ap (λ (call : LatestCall). call.number) fits ∙ none))
