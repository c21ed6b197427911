-- Each answer from the tests that lead to it. Assumes nothing.
use Rattle.std.specs.Prelude.{Ok, Err}
use Prim.Native.Nat.{ℕ}
use mathlib.Core.Bool.{Bool, true, false}
use mathlib.Core.List.{List}
use mathlib.Core.Path.{◌≡◌, refl}
use lib.Dec.{eqb}
use lib.ListN.{length}
use borrow.Author.Tests.{eq-eqb, ne_eqb}
use Rattle.plan.specs.declared.Plan.{Plan}
use Rattle.plan.specs.Validity.{plan_valid}
use Rattle.script.specs.Limits.{most_ops}
use Rattle.refusal.specs.Checks.{unless}
use Rattle.refusal.specs.declared.Refusal.{Refusal}
use Rattle.refusal.specs.declared.Refusal.TheVariants.{ImpossiblePlan, LatestOutOfLimits, WrongLength}
use Rattle.refusal.proofs.Passed.{unless_passed}
use Rattle.latest.specs.declared.LateScript.{LateScript}
use Rattle.latest.specs.Answer.{domain_fits, latest_from, latest_of, latest_verdict, latest_with}
use Rattle.latest.specs.Bounds.{Fitting}
use Rattle.latest.specs.Latest.{latest_ticks}
use Rattle.latest.specs.Script.{late_numbers, late_script_of, latest_script}
use Rattle.refusal.specs.Verdict.{Verdict}

module _ (plan : Plan) (domain : ℕ) (script : List ℕ) where
  -- ---- the verdict

  pub wrong_length_lem : (length script ≡ most_ops → ⊥) → latest_verdict plan domain script ≡ Err WrongLength
  unfolding latest_verdict
  wrong_length_lem differs = rw (ne_eqb (length script) most_ops differs) refl

  pub impossible_plan : length script ≡ most_ops → plan_valid plan ≡ false → latest_verdict plan domain script ≡ Err ImpossiblePlan
  unfolding latest_verdict
  impossible_plan one impossible = rw (eq-eqb (length script) most_ops one, impossible) refl

  pub out_of_limits :
      length script ≡ most_ops
      → plan_valid plan ≡ true
      → domain_fits plan domain ≡ false
      → latest_verdict plan domain script ≡ Err (LatestOutOfLimits domain)
  unfolding latest_verdict
  out_of_limits one possible unfit = rw (eq-eqb (length script) most_ops one, possible, unfit) refl

  pub accepted : length script ≡ most_ops → Fitting plan domain → latest_verdict plan domain script ≡ Ok tt
  unfolding latest_verdict
  accepted one fitting =
      let possible : plan_valid plan ≡ true = fitting.0 in
      let fits : domain_fits plan domain ≡ true = fitting.1 in
      rw (eq-eqb (length script) most_ops one, possible, fits) refl

  -- an answer is told of a fitting domain alone
  pub accepted_fits : latest_verdict plan domain script ≡ Ok tt → Fitting plan domain
  unfolding latest_verdict
  accepted_fits is =
      let first = unless_passed (eqb (length script) most_ops) _ _ is in
      let second = unless_passed (plan_valid plan) _ _ first.1 in
      (second.0, (unless_passed (domain_fits plan domain) _ _ second.1).0)

  -- ---- the whole answer

  -- a refusal is told with 0 ticks, and the buffer is as it was
  pub refused_is :
      (refusal : Refusal)
      → latest_verdict plan domain script ≡ Err refusal
      → latest_with (Err refusal) script ≡ latest_of plan domain script
  unfolding latest_of
  refused_is refusal judged = rw judged refl

  -- an answer's verdict is the verdict
  pub accepted_told : (latest_of plan domain script).verdict ≡ Ok tt → latest_verdict plan domain script ≡ Ok tt
  unfolding latest_of
  accepted_told tells = go (latest_verdict plan domain script) tells
    where
      go : (verdict : Verdict) → (latest_from verdict plan domain script).verdict ≡ Ok tt → verdict ≡ Ok tt
      go (Ok tt) is = refl
      go (Err refusal) is = is

  -- what is told where nothing is refused
  pub told_is : latest_verdict plan domain script ≡ Ok tt
      → ((latest_of plan domain script).script ≡ latest_script plan domain) × ((latest_of plan domain script).ticks ≡ latest_ticks plan domain)
  unfolding latest_of
  told_is accepted = rw accepted (refl, refl)

  pub accepted_is :
      (ticks : ℕ) (parts : LateScript) (written : List ℕ)
      → length script ≡ most_ops
      → Fitting plan domain
      → ticks ≡ latest_ticks plan domain
      → parts ≡ late_script_of plan domain
      → written ≡ late_numbers parts most_ops 0
      → latest_with (Ok ticks) written ≡ latest_of plan domain script
  unfolding latest_of latest_script
  accepted_is ticks parts written one fitting ticks_are parts_are writes =
      rw (accepted one fitting, ticks_are, writes, parts_are) refl

-- one impossible plan is judged as another
pub impossible_alike :
    (domain : ℕ) (script : List ℕ) (one other : Plan)
    → plan_valid one ≡ false
    → plan_valid other ≡ false
    → latest_of one domain script ≡ latest_of other domain script
unfolding latest_of latest_verdict
impossible_alike domain script one other impossible impossible' = go (eqb (length script) most_ops)
  where
    judged : Bool → Plan → Verdict
    judged fits plan =
        unless fits WrongLength
        (unless (plan_valid plan) ImpossiblePlan (unless (domain_fits plan domain) (LatestOutOfLimits domain) (Ok tt)))

    go : (fits : Bool) → latest_from (judged fits one) one domain script ≡ latest_from (judged fits other) other domain script
    go false = refl
    go true = rw (impossible, impossible') refl
