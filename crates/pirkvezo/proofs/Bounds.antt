-- What a call for a step bound leaves, from what its parts give. Assumes nothing.
use mathlib.Core.Path.{◌≡◌, refl, ap, ◌∙◌}
use mathlib.Core.Bool.{true, false}
use mathlib.Core.List.{List}
use Prim.Native.Nat.{ℕ}
use Rattle.plan.specs.declared.Plan.{Plan}
use Rattle.bound.specs.Bound.{BoundAnswer}
use Rattle.bound.specs.Bound.{bound_answer_of}
use Rattle.bound.proofs.Answers.{impossible_alike}
use Rattle.pirkvezo.specs.Answers.{plan_fits, wrong_length}
use Rattle.pirkvezo.specs.Bounding.{bound_done, host_bound, host_bound_with}
use Rattle.pirkvezo.specs.Numbers.{handed_plan, plan_of}
use Rattle.pirkvezo.proofs.Calls.{Told}
use Rattle.pirkvezo.proofs.Judged.{handed}

module _ (plan scripts answer : List ℕ) (number : ℕ) (written : List ℕ) where
  pub bound_unfit : plan_fits plan answer ≡ false → Told wrong_length 0 0 answer number written → host_bound_with number written ≡ host_bound plan scripts answer
  unfolding host_bound
  bound_unfit unfit tells = rw (unfit, host_bound, tells.number_is, tells.answer_is) refl

  pub bound_fit :
      (lent : Plan) (found : BoundAnswer)
      → plan_fits plan answer ≡ true
      → lent ≡ handed_plan plan
      → found ≡ bound_answer_of lent scripts
      → Told found.verdict found.steps 0 answer number written
      → host_bound_with number written ≡ host_bound plan scripts answer
  unfolding host_bound bound_done
  bound_fit lent found fit planned did tells =
      let done : found ≡ bound_answer_of (plan_of plan) scripts =
      did
      ∙ ap (λ (p : Plan). bound_answer_of p scripts) planned
      ∙ handed (λ p. bound_answer_of p scripts) (impossible_alike scripts) plan in
      rw (fit, host_bound, tells.number_is, tells.answer_is) (ap (λ (answered : BoundAnswer). bound_done answered answer) done)
